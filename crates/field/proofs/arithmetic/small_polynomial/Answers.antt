-- `field::arithmetic::small_polynomial` meets its contract. Assumes nothing.
use Rattle.field.proofs.Base.{sym, ap}
use Rattle.field.specs.Field.{polynomial}
use Rattle.field.proofs.Bytes.{small-five}
use Rattle.field.proofs.arithmetic.small_polynomial.Goals as goal

pub returns-in-3 : goal.returns-in-3
unfolding polynomial
returns-in-3 c s = sym (ap polynomial c.in-3.is)

pub returns-in-4 : goal.returns-in-4
unfolding polynomial
returns-in-4 c s = sym (ap polynomial c.in-4.is)

pub returns-in_default : goal.returns-in_default
unfolding polynomial
returns-in_default c s = sym (ap polynomial (small-five _ s c.in_default.in_default-own.rest.0.1 c.in_default.in_default-own.rest.1))
