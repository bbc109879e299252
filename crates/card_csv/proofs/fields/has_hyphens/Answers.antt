-- `card_csv::fields::has_hyphens` meets its contract. Assumes nothing.
use Rattle.field.proofs.Base.{rules}
use Rattle.card_csv.specs.Reading.{has_hyphens}
use Rattle.card_csv.proofs.fields.has_hyphens.Goals as goal

pub returns-then-text-eq45 : goal.returns-then-text-eq45
unfolding has_hyphens
returns-then-text-eq45 c = search rules

pub returns-else-text-eq45 : goal.returns-else-text-eq45
unfolding has_hyphens
returns-else-text-eq45 c = search rules
