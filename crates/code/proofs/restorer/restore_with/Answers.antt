-- `code::restorer::restore_with` meets its contract. Assumes nothing.
use Rattle.field.proofs.Base.{rules, refl}
use Rattle.code.proofs.restoring.Repairing.{restores-refused}
use Rattle.code.proofs.restorer.restore_with.Goals as goal

pub returns-in_err-ask_within : goal.returns-in_err-ask_within
returns-in_err-ask_within c =
    let a = c.args in
    let v = c.ask_within in
    restores-refused a.width a.word.now a.erasures.now a.reach v.result c.in_err-ask_within.field-0.0 v.ensures (search rules) _ (search rules) _ refl
