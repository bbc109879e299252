-- `card_csv::fields::value_of` meets its contract. Before each turn the digits so far stand for the value. Assumes nothing.
use Rattle.card_csv.proofs.Values.{Valued}
use Rattle.card_csv.proofs.fields.value_of.Given as goal

abbrev pub invariant-loop-digit : goal.invariant-loop-digit
invariant-loop-digit l = Valued l.text l.digit-index l.value
