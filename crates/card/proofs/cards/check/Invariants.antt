-- `card::cards::check` meets its contract. Assumes nothing.
use Rattle.field.proofs.Base.{◌-◌, length}
use Rattle.card.proofs.Checking.{Walked}
use Rattle.card.proofs.cards.check.Given as goal

abbrev pub invariant-loop-at : goal.invariant-loop-at
invariant-loop-at l = Walked l.card l.at l.i

abbrev pub decreases-loop-at : goal.decreases-loop-at
decreases-loop-at l = length l.card - l.at
