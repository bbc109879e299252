-- `field::arithmetic::raise_by_squares` meets its contract: the product so far, times the power of the rest, is the power. Assumes nothing.
use Rattle.field.proofs.Base.{◌≡◌}
use Rattle.field.specs.Field.{product, power}
use Rattle.field.specs.inner.Operand.{Operand}
use Rattle.field.proofs.arithmetic.raise_by_squares.Given as goal

abbrev pub invariant-loop-n : goal.invariant-loop-n
invariant-loop-n l = Operand l.width l.a → Operand l.width l.r × Operand l.width l.x × (product l.width l.r (power l.width l.x l.n) ≡ power l.width l.a l.initial.n)

abbrev pub decreases-loop-n : goal.decreases-loop-n
decreases-loop-n l = l.n
