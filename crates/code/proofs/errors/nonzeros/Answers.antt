-- `code::errors::nonzeros` meets its contract: the check places below k are looked at. Assumes nothing.
use Rattle.field.proofs.Base.{arith, add-one}
use Rattle.code.specs.inner.Locate.{full}
use Rattle.code.proofs.finding.Finding.{lists-none}
use Rattle.code.proofs.errors.nonzeros.Goals as goal

pub loop-k-init : goal.loop-k-init
unfolding full
loop-k-init c = (omega arith, lists-none)

pub loop-k-preserved : goal.loop-k-preserved
unfolding full
loop-k-preserved c = (omega (arith, c.with_nonzero-f.ensures.0, c.loop-k.invariant.0), rw add-one (c.with_nonzero-f.ensures.1 _ c.loop-k.invariant.1))
