-- `programs::input::read_batch` meets its contract. Assumes nothing.
use Rattle.field.proofs.Base.{◌-◌, ◌≤◌, ◌≡◌, false, length}
use Rattle.programs.proofs.input.read_batch.Given as goal

abbrev pub invariant-loop-count : goal.invariant-loop-count
invariant-loop-count l = (l.count ≤ length l.buf) × (length l.buf ≡ length l.initial.buf) × (l.failed ≡ false)

abbrev pub decreases-loop-count : goal.decreases-loop-count
decreases-loop-count l = length l.buf - l.count
