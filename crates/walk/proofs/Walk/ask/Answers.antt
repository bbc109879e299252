-- `walk::Walk::ask` meets its contract. Assumes nothing.
use Rattle.field.proofs.Base.{rules}
use Rattle.walk.proofs.Walking.{asked-length, asked-number, asked-passed}
use Rattle.walk.proofs.Walk.ask.Goals as goal

pub returns-then-n-self : goal.returns-then-n-self
returns-then-n-self c = search (rules, asked-length)

pub returns-then-is_number : goal.returns-then-is_number
returns-then-is_number c = search (rules, asked-passed)

pub returns-else-is_number : goal.returns-else-is_number
returns-else-is_number c = search (rules, asked-number)
