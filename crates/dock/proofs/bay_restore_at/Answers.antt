-- `dock::bay_restore_at` meets its contract. Assumes nothing.
use Rattle.field.proofs.Base.{rules, arith}
use Rattle.dock.proofs.Serving.{serves-no-bay, serves-short, serves-no, serves-denied, serves-paid}
use Rattle.dock.proofs.bay_restore_at.Goals as goal

pub returns-then-b-ge-BAYS : goal.returns-then-b-ge-BAYS
returns-then-b-ge-BAYS c = search (rules, serves-no-bay)

pub returns-then-bytes-ne-RECORD : goal.returns-then-bytes-ne-RECORD
returns-then-bytes-ne-RECORD c = search (rules, serves-short)

pub returns-in_err-changed : goal.returns-in_err-changed
returns-in_err-changed c =
    let q = c.in_err-changed.field-0.0 in
    serves-no _ _ _ _ (omega arith) _ c.copy_from_slice.ensures.after _ _ c.restore_at.ensures q (search rules) _ (search rules)

pub returns-in_err-rest : goal.returns-in_err-rest
returns-in_err-rest c =
    let k = c.in_ok-changed.changed in
    let q = c.in_err-rest.field-0.0 in
    serves-denied _ _ _ _ (omega arith) _ c.copy_from_slice.ensures.after _ _ c.restore_at.ensures k (search rules)
    _ _ c.settle.ensures q (search rules) _ (search rules)

pub returns : goal.returns
returns c =
    let k = c.in_ok-changed.changed in
    let rest = c.in_ok-rest.rest in
    serves-paid _ _ _ _ (omega arith) _ c.copy_from_slice.ensures.after _ _ c.restore_at.ensures k (search rules)
    _ _ c.settle.ensures rest (search rules)
