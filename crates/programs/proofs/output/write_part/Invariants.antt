-- `programs::output::write_part` meets its contract. Assumes nothing.
use Rattle.field.proofs.Base.{◌-◌, ◌≤◌, length}
use Rattle.programs.proofs.output.write_part.Given as goal

abbrev pub invariant-loop-done : goal.invariant-loop-done
invariant-loop-done l = l.done ≤ length l.part

abbrev pub decreases-loop-done : goal.decreases-loop-done
decreases-loop-done l = length l.part - l.done
