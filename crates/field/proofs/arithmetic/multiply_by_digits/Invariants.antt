-- `field::arithmetic::multiply_by_digits` meets its contract: what is added so far and the product of the rest make the product. Assumes nothing.
use Rattle.field.proofs.Base.{◌≡◌, ◌<◌}
use Rattle.field.specs.Polynomial.{add}
use Rattle.field.specs.Field.{order, product}
use Rattle.field.specs.inner.Bytes.{multiplied, Small}
use Rattle.field.proofs.arithmetic.multiply_by_digits.Given as goal

abbrev pub invariant-loop-y : goal.invariant-loop-y
invariant-loop-y l = Small l.width → (l.x < order l.width) × (add l.r (product l.width l.y l.x) ≡ multiplied l.width l.a l.b)

abbrev pub decreases-loop-y : goal.decreases-loop-y
decreases-loop-y l = l.y
