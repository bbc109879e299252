-- `sheet::calendar::date_exists` meets its contract. Assumes nothing.
use Rattle.field.proofs.Base.{rules}
use Rattle.sheet.proofs.Dates.{date-zero, date-some}
use Rattle.sheet.proofs.calendar.date_exists.Goals as goal

pub returns-then-day-ge1 : goal.returns-then-day-ge1
returns-then-day-ge1 c = search (rules, date-some)

pub returns-else-day-ge1 : goal.returns-else-day-ge1
returns-else-day-ge1 c = search (rules, date-zero)
