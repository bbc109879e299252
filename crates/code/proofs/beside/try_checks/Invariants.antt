-- `code::beside::try_checks` meets its contract. Assumes nothing.
use Rattle.code.specs.inner.Correction.{Ready, places_of, NoneBeside}
use Rattle.code.proofs.Loops.{Sought}
use Rattle.code.proofs.beside.try_checks.Given as goal

abbrev pub invariant-loop-p : goal.invariant-loop-p
invariant-loop-p l = Ready l.width l.word l.t → Sought (λ i. NoneBeside l.width l.word i (places_of l.t)) l.initial.p l.p
