-- `card_csv::reader::behind_number` meets its contract. Assumes nothing.
use Rattle.field.proofs.Base.{rules}
use Rattle.card_csv.specs.inner.Numbered.{behind_number}
use Rattle.card_csv.proofs.reader.behind_number.Goals as goal

pub returns-then-not-full : goal.returns-then-not-full
unfolding behind_number
returns-then-not-full c = search rules

pub returns-then-is_number : goal.returns-then-is_number
unfolding behind_number
returns-then-is_number c = search rules

pub returns-else-is_number : goal.returns-else-is_number
unfolding behind_number
returns-else-is_number c = search rules
