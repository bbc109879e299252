-- `card_csv::fields::date_in` meets its contract. Assumes nothing.
use Rattle.field.proofs.Base.{rules}
use Rattle.card_csv.specs.Reading.{date_in, has_hyphens}
use Rattle.card_csv.proofs.fields.date_in.Goals as goal

pub returns-then-not-has_hyphens : goal.returns-then-not-has_hyphens
unfolding date_in
returns-then-not-has_hyphens c = search rules

pub returns-in_err-year_in : goal.returns-in_err-year_in
unfolding date_in
returns-in_err-year_in c = search rules

pub returns-in_err-two_at : goal.returns-in_err-two_at
unfolding date_in
returns-in_err-two_at c = search rules

pub returns-in_err-two_at-2 : goal.returns-in_err-two_at-2
unfolding date_in
returns-in_err-two_at-2 c = search rules

pub returns : goal.returns
unfolding date_in
returns c = search rules

pub year_in-requires : goal.year_in-requires
unfolding has_hyphens
year_in-requires c = search rules

pub two_at-requires : goal.two_at-requires
unfolding has_hyphens
two_at-requires c = search rules

pub two_at-requires-2 : goal.two_at-requires-2
unfolding has_hyphens
two_at-requires-2 c = search rules
