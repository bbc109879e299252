-- `card_csv::fields::date_from` meets its contract. Assumes nothing.
use Rattle.field.proofs.Base.{rules}
use Rattle.card_csv.specs.Reading.{date_from}
use Rattle.card_csv.proofs.fields.date_from.Goals as goal

pub returns-then-year-lt2000 : goal.returns-then-year-lt2000
unfolding date_from
returns-then-year-lt2000 c = search rules

pub returns : goal.returns
unfolding date_from
returns c = search rules
