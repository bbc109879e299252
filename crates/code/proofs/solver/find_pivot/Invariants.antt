-- `code::solver::find_pivot` meets its contract. The rows that the loop has passed have 0 in the column. Assumes nothing.
use Rattle.code.proofs.solving.SolverSteps.{Seeking}
use Rattle.code.proofs.solver.find_pivot.Given as goal

abbrev pub invariant-loop-p : goal.invariant-loop-p
invariant-loop-p l = Seeking l.a l.c l.r l.p
