-- `field::sum` meets its contract. Assumes nothing.
use Rattle.field.proofs.Base.{rules}
use Rattle.field.specs.Polynomial.{add}
use Rattle.field.proofs.Ask.{after-passed}
use Rattle.field.proofs.sum.Goals as goal

pub returns : goal.returns
unfolding add
returns c = search (rules, after-passed)
