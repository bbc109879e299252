-- `code::solver::add_products` meets its contract. The loop fills the row. Assumes nothing.
use Rattle.field.proofs.Base.{ℕ, get_or}
use Rattle.field.specs.Polynomial.{add}
use Rattle.field.specs.Field.{product}
use Rattle.field.specs.inner.Operand.{Operand}
use Rattle.code.specs.inner.Matrix.{columns, Operands}
use Rattle.code.proofs.Loops.{Filled}
use Rattle.code.proofs.solver.add_products.Given as goal

abbrev pub invariant-loop-j : goal.invariant-loop-j
invariant-loop-j l = Filled ℕ 0 columns (Operand l.width l.k × Operands l.width l.by) (λ i. add (get_or l.row i 0) (product l.width l.k (get_or l.by i 0))) l.out l.j
