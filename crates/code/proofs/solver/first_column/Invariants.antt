-- `code::solver::first_column` meets its contract. The loop fills the list. Assumes nothing.
use Rattle.field.proofs.Base.{ℕ}
use Rattle.code.specs.inner.Matrix.{unknowns, entry}
use Rattle.code.proofs.Loops.{Filled}
use Rattle.code.proofs.solver.first_column.Given as goal

abbrev pub invariant-loop-i : goal.invariant-loop-i
invariant-loop-i l = Filled ℕ 0 unknowns Unit (λ k. entry l.a k 0) l.out l.i
