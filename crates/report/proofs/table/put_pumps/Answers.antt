-- `report::table::put_pumps` meets its contract. Before turn p the lines of the pumps below p are written. Assumes nothing.
use Rattle.field.proofs.Base.{rules, add-one, arith}
use Rattle.card.proofs.Writing.{appends-on}
use Rattle.report.specs.Table.{pump_lines}
use Rattle.report.proofs.Tables.{pumps_short}
use Rattle.report.proofs.table.put_pumps.Goals as goal

pub loop-p-init : goal.loop-p-init
unfolding pump_lines
loop-p-init c = search rules

pub put_pump-requires : goal.put_pump-requires
put_pump-requires c = (omega (arith, pumps_short c.args.report.now c.loop-p.p), omega arith, c.requires.1)

pub loop-p-preserved : goal.loop-p-preserved
unfolding pump_lines
loop-p-preserved c = rw (add-one c.loop-p.p) (appends-on c.loop-p.invariant c.put_pump.ensures)
