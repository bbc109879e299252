-- `field::table::powers_from` meets its contract: an exponent of α counts modulo 127. Assumes nothing.
use Rattle.field.proofs.PowerTable.{powers, powers-from}
use Rattle.field.proofs.table.powers_from.Goals as goal

pub returns : goal.returns
unfolding powers
returns c = powers-from c.args.e.0 c.args.i.0 c.requires.0
