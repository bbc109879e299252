-- `code::validation::pass_below` meets its contract. Assumes nothing.
use Rattle.field.proofs.Base.{◌-◌, ◌<◌, length}
use Rattle.field.specs.Sum.{at}
use Rattle.code.specs.inner.Block.{Run}
use Rattle.code.proofs.validation.pass_below.Given as goal

abbrev pub invariant-loop-p : goal.invariant-loop-p
invariant-loop-p l = Run (λ p. at l.xs p < l.q) l.i (length l.xs) l.p

abbrev pub decreases-loop-p : goal.decreases-loop-p
decreases-loop-p l = length l.xs - l.p
