-- `dock::any_left` meets its contract. Assumes nothing.
use Rattle.field.proofs.Base.{rules}
use Rattle.dock.proofs.Spending.{own-left, common-left}
use Rattle.dock.proofs.any_left.Goals as goal

pub returns-then-left-bay-gt0 : goal.returns-then-left-bay-gt0
returns-then-left-bay-gt0 c = search (rules, own-left)

pub returns-else-left-bay-gt0 : goal.returns-else-left-bay-gt0
returns-else-left-bay-gt0 c = search (rules, common-left)
