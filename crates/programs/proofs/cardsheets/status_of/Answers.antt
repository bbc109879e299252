-- `programs::cardsheets::status_of` meets its contract. Assumes nothing.
use Rattle.field.proofs.Base.{rules}
use Rattle.programs.proofs.Telling.{sheets-all, sheets-some}
use Rattle.programs.proofs.cardsheets.status_of.Goals as goal

pub returns-then-t-eq0 : goal.returns-then-t-eq0
returns-then-t-eq0 c = sheets-all c.args.t (search rules)

pub returns-else-t-eq0 : goal.returns-else-t-eq0
returns-else-t-eq0 c = sheets-some c.args.t (search rules)
