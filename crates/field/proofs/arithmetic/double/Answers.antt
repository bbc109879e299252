-- `field::arithmetic::double` meets its contract. Assumes nothing.
use Rattle.field.proofs.Steps.{double-low, double-high}
use Rattle.field.specs.Polynomial.{add}
use Rattle.field.proofs.arithmetic.double.Goals as goal

pub returns-then-d-q : goal.returns-then-d-q
unfolding add
returns-then-d-q c m w eq ep h = double-low m c.args.q c.args.a w eq h c.if-d-q.true

pub returns-else-d-q : goal.returns-else-d-q
unfolding add
returns-else-d-q c m w eq ep h = double-high m c.args.q c.args.a w eq c.args.p ep h c.if-d-q.false
