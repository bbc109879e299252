-- `walk::counting::count_from` meets its contract. Assumes nothing.
use Rattle.field.proofs.Base.{◌≡◌, length}
use Rattle.walk.specs.inner.Parts.{CountsFrom}
use Rattle.walk.proofs.counting.count_from.Given as goal

abbrev pub invariant-loop-i : goal.invariant-loop-i
invariant-loop-i l = (length l.card ≡ length l.initial.card) × CountsFrom l.most l.first l.i l.initial.progress l.initial.card l.progress l.card
