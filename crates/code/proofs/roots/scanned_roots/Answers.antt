-- `code::roots::scanned_roots` meets its contract. Assumes nothing.
use Rattle.std.proofs.Common.{Option}
use Rattle.field.proofs.Base.{sym, subst, arith}
use Rattle.field.proofs.Widths.{field_of}
use Rattle.code.specs.declared.roots.RootPair.{RootPair}
use Rattle.code.specs.inner.Scan.{TwoRoots}
use Rattle.code.proofs.finding.Scanning.{carried_on}
use Rattle.code.proofs.finding.Finding.{carried-start}
use Rattle.code.proofs.finding.Quadratic.{low-root, high-root, low-there, high-there}
use Rattle.code.proofs.roots.scanned_roots.Goals as goal

pub returns-in_err-low : goal.returns-in_err-low
returns-in_err-low c =
    λ w hs hl en.
    (let a = c.args in
    let F = field_of a.width w in
    subst (λ (r : Option RootPair). TwoRoots a.width a.square a.linear a.constant a.n r) (sym c.from_residual.ensures)
    (λ i j l lj Q. low-there F Q hs l (omega (arith, en, lj)) a.n lj (c.in_err-low.ensures.1 a.square a.linear w (carried-start F a.square a.linear hs hl))))

pub returns-in_err-high : goal.returns-in_err-high
returns-in_err-high c =
    λ w hs hl en.
    (let a = c.args in
    let F = field_of a.width w in
    let S = c.in_ok-low.ensures.1 a.square a.linear w (carried-start F a.square a.linear hs hl) in
    let N = c.in_err-high.ensures.1 a.square a.linear w (carried_on a.width w S.0 c.shift-d.ensures c.shift-e.ensures) in
    subst (λ (r : Option RootPair). TwoRoots a.width a.square a.linear a.constant a.n r) (sym c.from_residual-in_err-high.ensures)
    (λ i j l lj Q.
    high-there F Q hs l (omega (arith, en, lj)) a.n c.in_ok-low.low.at.0 lj
    (low-root F Q hs l (omega (arith, en, lj)) c.in_ok-low.low.at.0 S.1) N))

pub returns : goal.returns
returns c =
    λ w hs hl en i j l lj Q.
    (let a = c.args in
    let F = field_of a.width w in
    let low = c.in_ok-low.low.at.0 in
    let S = c.in_ok-low.ensures.1 a.square a.linear w (carried-start F a.square a.linear hs hl) in
    let H = c.in_ok-high.ensures in
    let T = H.1 a.square a.linear w (carried_on a.width w S.0 c.shift-d.ensures c.shift-e.ensures) in
    let e = low-root F Q hs l (omega (arith, en, lj)) low S.1 in
    (e, high-root F Q hs l (omega (arith, en, lj)) low _ e T.1 H.0.0))
