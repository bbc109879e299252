-- `field::table::power_of_alpha` meets its contract. Assumes nothing.
use Rattle.field.proofs.Base.{rules}
use Rattle.field.proofs.PowerTable.{powers, powers-at}
use Rattle.field.proofs.table.power_of_alpha.Goals as goal

pub returns : goal.returns
unfolding powers
returns c = powers-at c.args.e.0 (search rules)
