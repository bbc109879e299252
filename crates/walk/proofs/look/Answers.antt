-- `walk::look` meets its contract. Assumes nothing.
use Rattle.field.proofs.Base.{rules}
use Rattle.walk.proofs.Looking.{by-value-refused}
use Rattle.walk.proofs.look.Goals as goal

pub returns-in_err-look_into : goal.returns-in_err-look_into
returns-in_err-look_into c =
    by-value-refused _ _ _ _ c.look_into.ensures c.in_err-look_into.field-0.0 (search rules) _ (search rules)
