-- `walk::counting::count_slot` meets its contract. Assumes nothing.
use Rattle.field.proofs.Base.{rules}
use Rattle.walk.proofs.Tallying.{counts-blank}
use Rattle.walk.proofs.counting.count_slot.Goals as goal

pub returns-then-is_blank : goal.returns-then-is_blank
returns-then-is_blank c = search (rules, counts-blank)
