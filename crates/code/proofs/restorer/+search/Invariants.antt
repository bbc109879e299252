-- `code::restorer::search` meets its contract. The measure is the number of extra places left. Assumes nothing.
use Rattle.field.proofs.Base.{◌≡◌, false, ◌∷◌, ◌+◌, ◌-◌}
use Rattle.code.specs.Erasure.{member}
use Rattle.code.specs.inner.Correction.{Ready, places_of, NoneFrom}
use Rattle.code.proofs.Loops.{Sought}
use Rattle.code.proofs.restorer.+search.Given as goal

abbrev pub decreases-search : goal.decreases-search
decreases-search l = l.left

abbrev pub invariant-loop-p : goal.invariant-loop-p
invariant-loop-p l =
    Ready l.width l.word l.t
    → Sought (λ i. member i (places_of l.t) ≡ false → NoneFrom l.width l.word (i ∷ places_of l.t) (i + 1) (l.left - 1)) l.initial.p l.p
