-- `field::horner::one_by_one` meets its contract: the sums over the symbols that the pass has left behind, by Horner's rule. Assumes nothing.
use Rattle.field.proofs.Base.{◌≡◌, List, ℕ, ◌++◌}
use Rattle.field.specs.Sum.{five}
use Rattle.field.proofs.Evaluation.{evaluate}
use Rattle.field.proofs.horner.one_by_one.Given as goal

abbrev pub invariant-loop-c : goal.invariant-loop-c
invariant-loop-c l =
    (done : List ℕ) × (l.symbols ≡ l.c-iterator.iter.rest.now ++ done) × (l.s ≡ five (evaluate l.width done))
