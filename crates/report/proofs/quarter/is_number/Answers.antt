-- `report::quarter::is_number` meets its contract. Assumes nothing.
use Rattle.field.proofs.Base.{rules}
use Rattle.code.proofs.Same.{compared}
use Rattle.report.proofs.quarter.is_number.Goals as goal

pub returns : goal.returns
returns c = compared c.same.result c.args.text.now _ _ (search rules) c.same.ensures
