-- `sheet::calendar::is_leap` meets its contract. Assumes nothing.
use Rattle.field.proofs.Base.{rules}
use Rattle.sheet.proofs.Dates.{leap-not-fourth, leap-fourth, leap-hundred}
use Rattle.sheet.proofs.calendar.is_leap.Goals as goal

pub returns-then-year-ne0 : goal.returns-then-year-ne0
returns-then-year-ne0 c = search (rules, leap-fourth)

pub returns-else-year-ne0 : goal.returns-else-year-ne0
returns-else-year-ne0 c = search (rules, leap-hundred)

pub returns-else-year-eq0 : goal.returns-else-year-eq0
returns-else-year-eq0 c = search (rules, leap-not-fourth)
