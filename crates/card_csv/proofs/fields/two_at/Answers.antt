-- `card_csv::fields::two_at` meets its contract. Assumes nothing.
use Rattle.field.proofs.Base.{rules}
use Rattle.card_csv.specs.Reading.{two_at, is_digit}
use Rattle.card_csv.proofs.fields.two_at.Goals as goal

pub returns-then-is_ascii_digit-2 : goal.returns-then-is_ascii_digit-2
unfolding two_at is_digit
returns-then-is_ascii_digit-2 c = search rules

pub returns-else-is_ascii_digit : goal.returns-else-is_ascii_digit
unfolding two_at is_digit
returns-else-is_ascii_digit c = search rules
