-- `code::validation::all_below` meets its contract: what the blocks have in common with 256 - q is gathered. Assumes nothing.
use Rattle.field.proofs.Base.{◌-◌, ◌≤◌, ◌<◌, length}
use Rattle.code.proofs.Blocks.{Gathered}
use Rattle.code.proofs.validation.all_below.Given as goal

abbrev pub invariant-loop-p : goal.invariant-loop-p
invariant-loop-p l = (0 < l.q) × (8 ≤ length l.xs) × (l.p ≤ length l.xs) × Gathered l.xs l.q l.p l.found

abbrev pub decreases-loop-p : goal.decreases-loop-p
decreases-loop-p l = l.n - l.p
