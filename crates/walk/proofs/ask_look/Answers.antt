-- `walk::ask_look` meets its contract. Assumes nothing.
use Rattle.field.proofs.Base.{rules}
use Rattle.walk.proofs.Looking.{asked-number, asked-row, asked-passed}
use Rattle.walk.proofs.ask_look.Goals as goal

pub returns-then-not-is_number : goal.returns-then-not-is_number
returns-then-not-is_number c = search (rules, asked-number)

pub returns-then-row-eq-ROW : goal.returns-then-row-eq-ROW
returns-then-row-eq-ROW c = search (rules, asked-passed)

pub returns-else-row-eq-ROW : goal.returns-else-row-eq-ROW
returns-else-row-eq-ROW c = search (rules, asked-row)
