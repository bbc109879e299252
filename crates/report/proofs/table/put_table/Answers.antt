-- `report::table::put_table` meets its contract. Assumes nothing.
use Rattle.card.proofs.Writing.{appends-on}
use Rattle.report.specs.Table.{table_text}
use Rattle.report.proofs.table.put_table.Goals as goal

pub returns : goal.returns
unfolding table_text
returns c = appends-on c.put_bytes.ensures (appends-on c.put_pumps.ensures c.put_last.ensures)
