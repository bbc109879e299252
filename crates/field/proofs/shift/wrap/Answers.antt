-- `field::shift::wrap` meets its contract. Assumes nothing.
use Rattle.field.proofs.Base.{rules}
use Rattle.field.specs.Polynomial.{add}
use Rattle.field.proofs.Shifts.{wrapped-product}
use Rattle.field.proofs.shift.wrap.Goals as goal

pub returns : goal.returns
unfolding add
returns c o e room = (let a = c.args in wrapped-product a.width o.width a.middle a.a a.k.0 (search rules) o.symbol e room)
