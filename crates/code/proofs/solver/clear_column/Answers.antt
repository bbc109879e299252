-- `code::solver::clear_column` meets its contract. The loop clears row after row, and the row of the pivot is put in last. Assumes nothing.
use Rattle.field.proofs.Base.{arith}
use Rattle.field.proofs.Scaling.{multiples-own}
use Rattle.code.proofs.solving.SolverSteps.{clearing-on, clearing-end}
use Rattle.code.proofs.solver.clear_column.Goals as goal

pub loop-i-preserved : goal.loop-i-preserved
loop-i-preserved c =
    clearing-on _ _ _ _ (omega arith) (omega arith) _ _ c.invert-k.ensures c.scale_row-unit.ensures _ _ c.loop-i.invariant
    (omega arith) _ (λ o y. c.add_row.ensures o y (λ e b. multiples-own c.scale_row-unit.result c.multiples-ms.result b c.multiples-ms.ensures))

pub returns : goal.returns
returns c =
    clearing-end _ _ _ _ (omega arith) (omega arith) _ _ c.invert-k.ensures c.scale_row-unit.ensures _ _ c.loop-i.invariant
    (omega arith)
