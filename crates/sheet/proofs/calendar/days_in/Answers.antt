-- `sheet::calendar::days_in` meets its contract. Assumes nothing.
use Rattle.field.proofs.Base.{true, false}
use Rattle.sheet.proofs.Dates.{days-thirty, days-february, days-to-july, days-from-august, days-none}
use Rattle.sheet.proofs.calendar.days_in.Goals as goal

pub returns-in-4 : goal.returns-in-4
returns-in-4 c = days-thirty _ _ c.in-4.is

pub returns-then-is_leap : goal.returns-then-is_leap
returns-then-is_leap c = days-february _ _ c.in-2.is _ true c.is_leap.ensures c.if-is_leap.true

pub returns-else-is_leap : goal.returns-else-is_leap
returns-else-is_leap c = days-february _ _ c.in-2.is _ false c.is_leap.ensures c.if-is_leap.false

pub returns-in-1 : goal.returns-in-1
returns-in-1 c = days-to-july _ _ c.in-1.is

pub returns-in-8 : goal.returns-in-8
returns-in-8 c = days-from-august _ _ c.in-8.is

pub returns-in_default : goal.returns-in_default
returns-in_default c = days-none _ _ c.in_default.in_default-own.rest.0.0.0.1 c.in_default.in_default-own.rest.0.0.1 c.in_default.in_default-own.rest.0.1 c.in_default.in_default-own.rest.1
