-- `code::solver::solve` meets its contract. Each turn of the loop is a step of the elimination, and each way out is an answer.
use Rattle.code.proofs.solving.SolverSteps.{Solving}
use Rattle.code.proofs.solver.solve.Given as goal

abbrev pub invariant-loop-c : goal.invariant-loop-c
invariant-loop-c l = Solving l.width l.initial.t l.t l.s l.r l.c
