-- `card_csv::fields::is_number` meets its contract. Assumes nothing.
use Rattle.field.proofs.Base.{rules}
use Rattle.card_csv.specs.Reading.{is_decimal}
use Rattle.card_csv.proofs.Values.{digits-test}
use Rattle.card_csv.proofs.fields.is_number.Goals as goal

pub returns-then-text-most : goal.returns-then-text-most
unfolding is_decimal
returns-then-text-most c = let digits = digits-test c.args.text.now in search rules

pub returns-else-text-most : goal.returns-else-text-most
unfolding is_decimal
returns-else-text-most c = search rules
