-- `walk::Walk::step` meets its contract: up to two, each record gets its own reach. Assumes nothing.
use Rattle.field.proofs.Base.{rules}
use Rattle.walk.proofs.Tallying.{steps-two, steps-two-refused}
use Rattle.walk.proofs.Walk.step.Goals as goal

pub returns-in_err-counted : goal.returns-in_err-counted
returns-in_err-counted c =
    steps-two-refused _ _ _ _ _ c.step_counting.ensures c.in_err-counted.field-0.0 (search rules) _ (search rules)

pub returns : goal.returns
returns c = steps-two _ _ _ _ _ c.step_counting.ensures c.in_ok-counted.counted (search rules)
