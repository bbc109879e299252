-- `field::lanes::shift` meets its contract. Assumes nothing.
use Rattle.field.proofs.Base.{rules}
use Rattle.field.specs.Polynomial.{add}
use Rattle.field.proofs.Lanewise.{shift-times}
use Rattle.field.proofs.lanes.shift.Goals as goal

pub returns : goal.returns
unfolding add
returns c = shift-times c.args.k.0 c.args.a (search rules)
