-- `dock::spend` meets its contract. Assumes nothing.
use Rattle.field.proofs.Base.{rules}
use Rattle.dock.proofs.Spending.{common-some, spent-own, spent-common}
use Rattle.dock.proofs.spend.Goals as goal

pub overflow_sub-left-else-left-bay-gt0 : goal.overflow_sub-left-else-left-bay-gt0
overflow_sub-left-else-left-bay-gt0 c = search (rules, common-some)

pub returns-then-left-bay-gt0 : goal.returns-then-left-bay-gt0
returns-then-left-bay-gt0 c = search (rules, spent-own)

pub returns-else-left-bay-gt0 : goal.returns-else-left-bay-gt0
returns-else-left-bay-gt0 c = search (rules, spent-common)
