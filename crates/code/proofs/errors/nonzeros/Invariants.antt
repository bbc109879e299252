-- `code::errors::nonzeros` meets its contract: the check places below k are looked at. Assumes nothing.
use Rattle.field.proofs.Base.{◌≤◌}
use Rattle.code.specs.Word.{at}
use Rattle.code.specs.inner.Locate.{full, Lists}
use Rattle.code.proofs.errors.nonzeros.Given as goal

abbrev pub invariant-loop-k : goal.invariant-loop-k
invariant-loop-k l = (l.f.count ≤ l.k) × Lists l.f (full l.k (at l.sums))
