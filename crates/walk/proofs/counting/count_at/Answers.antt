-- `walk::counting::count_at` meets its contract. Assumes nothing.
use Rattle.field.proofs.Base.{rules}
use Rattle.walk.proofs.Tallying.{counts-slot}
use Rattle.walk.proofs.counting.count_at.Goals as goal

pub returns : goal.returns
returns c = search (rules, counts-slot)
