-- `programs::cardstarts::write_table` meets its contract. Assumes nothing.
use Rattle.field.proofs.Base.{arith}
use Rattle.programs.proofs.Tabling.{tabled-countable}
use Rattle.programs.proofs.cardstarts.write_table.Goals as goal

pub put_table-requires : goal.put_table-requires
put_table-requires c = (grind arith, tabled-countable c.requires.1)
