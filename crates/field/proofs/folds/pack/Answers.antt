-- `field::folds::pack` meets its contract. Assumes nothing.
use Rattle.field.proofs.Base.{rules}
use Rattle.field.specs.inner.Lanes.{lanes}
use Rattle.field.proofs.folds.pack.Goals as goal

pub returns : goal.returns
unfolding lanes
returns c = search rules
