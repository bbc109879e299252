-- `card::cards::is_number` meets its contract. Assumes nothing.
use Rattle.field.proofs.Base.{rules}
use Rattle.card.proofs.Numbering.{number-no, number-on}
use Rattle.card.proofs.cards.is_number.Goals as goal

pub returns-then-number-lt1 : goal.returns-then-number-lt1
returns-then-number-lt1 c = search (rules, number-no)

pub returns-else-number-lt1 : goal.returns-else-number-lt1
returns-else-number-lt1 c = search (rules, number-on)
