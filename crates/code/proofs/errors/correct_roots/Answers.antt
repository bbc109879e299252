-- `code::errors::correct_roots` meets its contract. Assumes nothing.
use Rattle.field.proofs.Base.{◌≡◌, sym, ap, ◌∙◌, arith}
use Rattle.code.specs.Word.{items, at}
use Rattle.code.proofs.restoring.Trying.{sums_lt}
use Rattle.code.proofs.finding.Locator.{leading, middle, constant}
use Rattle.code.proofs.finding.PlainWays.{roots-zero, roots-none, roots-out, roots-pair}
use Rattle.code.proofs.errors.correct_roots.Goals as goal

pub returns-then-square-eq0 : goal.returns-then-square-eq0
returns-then-square-eq0 c =
    let a = c.args in
    λ R e. roots-zero a.width R.width a.word.now a.t.sums
    (sym (c.coefficient-square.ensures R.width (sums_lt R)) ∙ c.if-square-eq0.true)

pub returns-in_default : goal.returns-in_default
returns-in_default c =
    let a = c.args in
    λ R e.
    (let size : c.items_of-n.result ≡ items a.width = omega (arith, R.lent.size, c.items_of-n.ensures.0) in
    let top : c.coefficient-square.result ≡ leading a.width (at a.t.sums) = c.coefficient-square.ensures R.width (sums_lt R) in
    let mid : c.coefficient-linear.result ≡ middle a.width (at a.t.sums) = c.coefficient-linear.ensures R.width (sums_lt R) in
    let last : c.coefficient-constant.result ≡ constant a.width (at a.t.sums) = c.coefficient-constant.ensures R.width (sums_lt R) in
    roots-none a.width R.width a.word.now a.t.sums _ size _ _ _ top mid last c.in_default.ensures)

pub returns-then-r : goal.returns-then-r
returns-then-r c =
    let a = c.args in
    λ R e.
    (let size : c.items_of-n.result ≡ items a.width = omega (arith, R.lent.size, c.items_of-n.ensures.0) in
    let top : c.coefficient-square.result ≡ leading a.width (at a.t.sums) = c.coefficient-square.ensures R.width (sums_lt R) in
    let mid : c.coefficient-linear.result ≡ middle a.width (at a.t.sums) = c.coefficient-linear.ensures R.width (sums_lt R) in
    let last : c.coefficient-constant.result ≡ constant a.width (at a.t.sums) = c.coefficient-constant.ensures R.width (sums_lt R) in
    roots-out a.width R.width a.word.now a.t.sums _ size _ _ _ top mid last c.in-Some.r c.in-Some.ensures
    (λ l. omega (arith, c.then-r.either)))

pub returns : goal.returns
returns c =
    let a = c.args in
    let ep = ap (λ x. x.0) c.place_of.ensures in
    let eq = ap (λ x. x.0) c.place_of-2.ensures in
    λ R e.
    (let size : c.items_of-n.result ≡ items a.width = omega (arith, R.lent.size, c.items_of-n.ensures.0) in
    let top : c.coefficient-square.result ≡ leading a.width (at a.t.sums) = c.coefficient-square.ensures R.width (sums_lt R) in
    let mid : c.coefficient-linear.result ≡ middle a.width (at a.t.sums) = c.coefficient-linear.ensures R.width (sums_lt R) in
    let last : c.coefficient-constant.result ≡ constant a.width (at a.t.sums) = c.coefficient-constant.ensures R.width (sums_lt R) in
    roots-pair a.width R.width a.word.now a.t.sums _ size _ _ _ top mid last c.in-Some.r c.in-Some.ensures _
    c.place_of-2.result.0 c.place_of.result.0 eq ep
    (c.correct_pair.ensures R e (omega (arith, eq)) (omega (arith, eq, ep, c.if-r.false)) (omega (arith, ep, size, c.if-n-r.false))))
