-- `report::table::put_last` meets its contract: words and numbers stand one behind the other. Assumes nothing.
use Rattle.field.proofs.Base.{rules, append_assoc, append-nil}
use Rattle.card.proofs.Writing.{appends-on}
use Rattle.report.specs.Table.{last_lines}
use Rattle.report.proofs.table.put_last.Goals as goal

pub returns-then-report-ne0 : goal.returns-then-report-ne0
unfolding last_lines
returns-then-report-ne0 c =
    let two = appends-on c.put_bytes.ensures c.put_field.ensures.written in
    let four = appends-on two (appends-on c.put_bytes-2.ensures c.put_field-2.ensures.written) in
    search (rules, appends-on four c.put_more.ensures, append_assoc)

pub returns-else-report-ne0 : goal.returns-else-report-ne0
unfolding last_lines
returns-else-report-ne0 c =
    let two = appends-on c.put_bytes.ensures c.put_field.ensures.written in
    let four = appends-on two (appends-on c.put_bytes-2.ensures c.put_field-2.ensures.written) in
    search (rules, four, append_assoc, append-nil)
