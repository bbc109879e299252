-- `report::table::put_pumps` meets its contract. Before turn p the lines of the pumps below p are written. Assumes nothing.
use Rattle.card.specs.Text.{Appends}
use Rattle.report.specs.Table.{pump_lines}
use Rattle.report.proofs.table.put_pumps.Given as goal

abbrev pub invariant-loop-p : goal.invariant-loop-p
invariant-loop-p l = Appends l.initial.out (pump_lines l.report l.p) l.out
