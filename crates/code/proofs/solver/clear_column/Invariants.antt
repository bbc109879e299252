-- `code::solver::clear_column` meets its contract. The loop clears row after row, and the row of the pivot is put in last. Assumes nothing.
use Rattle.code.proofs.solving.SolverSteps.{Clearing}
use Rattle.code.proofs.solver.clear_column.Given as goal

abbrev pub invariant-loop-i : goal.invariant-loop-i
invariant-loop-i l = Clearing l.width l.a l.c l.p l.out l.i
