-- `code::beside::find_beside` meets its contract. Assumes nothing.
use Rattle.field.proofs.Base.{zero-le, le_refl}
use Rattle.field.proofs.Widths.{field_of}
use Rattle.code.specs.Word.{at}
use Rattle.code.proofs.restoring.Trying.{sums_at, searched-nothing, searched-found, searched-last}
use Rattle.code.proofs.finding.BesideErasures.{none_beside}
use Rattle.code.proofs.beside.find_beside.Goals as goal

pub returns-then-exist : goal.returns-then-exist
returns-then-exist c =
    let y = c.exist in
    let x = c.solve_erasures-b in
    λ R cube. searched-found zero-le y.result y.ensures c.if-exist.true
    (x.ensures _ R (c.candidate_checks-f.ensures _ _ R (c.eliminated_rows-rows.ensures _ R)))

pub returns-then-exist-2 : goal.returns-then-exist-2
returns-then-exist-2 c =
    let y = c.exist-2 in
    let d = c.try_data-c in
    λ R cube. searched-found (le_refl 1) y.result y.ensures c.if-exist-2.true (d.ensures R (c.eliminated_rows-rows.ensures _ R) cube)

pub returns : goal.returns
returns c =
    let a = c.args in
    let x = c.solve_erasures-b in
    let d = c.try_data-c in
    λ R cube.
    (let left = c.eliminated_rows-rows.ensures _ R in
    let outside = c.candidate_checks-f.ensures _ _ R left in
    searched-last (le_refl 1)
    (λ checks. none_beside (field_of a.width R.width) R.lent (at a.t.sums) (sums_at R)
    ((x.ensures _ R outside).none (searched-nothing x.result _ c.exist.ensures c.if-exist.false)) checks
    ((d.ensures R left cube).none (searched-nothing d.result _ c.exist-2.ensures c.if-exist-2.false)))
    (c.try_checks.ensures R outside))
