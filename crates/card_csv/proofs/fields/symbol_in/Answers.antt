-- `card_csv::fields::symbol_in` meets its contract. Assumes nothing.
use Rattle.field.proofs.Base.{rules}
use Rattle.card_csv.specs.Reading.{symbol_in}
use Rattle.card_csv.proofs.fields.symbol_in.Goals as goal

pub returns-then-not-is_number : goal.returns-then-not-is_number
unfolding symbol_in
returns-then-not-is_number c = search rules

pub returns-then-v-lt128 : goal.returns-then-v-lt128
unfolding symbol_in
returns-then-v-lt128 c = search rules

pub returns-else-v-lt128 : goal.returns-else-v-lt128
unfolding symbol_in
returns-else-v-lt128 c = search rules
