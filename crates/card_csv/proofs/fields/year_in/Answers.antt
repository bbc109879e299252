-- `card_csv::fields::year_in` meets its contract. Assumes nothing.
use Rattle.field.proofs.Base.{rules}
use Rattle.card_csv.specs.Reading.{year_in}
use Rattle.card_csv.proofs.fields.year_in.Goals as goal

pub returns-in_err-hundreds : goal.returns-in_err-hundreds
unfolding year_in
returns-in_err-hundreds c = search rules

pub returns-in_err-rest : goal.returns-in_err-rest
unfolding year_in
returns-in_err-rest c = search rules

pub returns : goal.returns
unfolding year_in
returns c = search rules
