-- `programs::cardrestore::status_of` meets its contract. Assumes nothing.
use Rattle.field.proofs.Base.{rules}
use Rattle.programs.proofs.Restoring.{restored-all, restored-some}
use Rattle.programs.proofs.cardrestore.status_of.Goals as goal

pub returns-then-t-eq0 : goal.returns-then-t-eq0
returns-then-t-eq0 c = restored-all c.args.t (search rules)

pub returns-else-t-eq0 : goal.returns-else-t-eq0
returns-else-t-eq0 c = restored-some c.args.t (search rules)
