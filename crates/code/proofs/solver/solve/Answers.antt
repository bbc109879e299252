-- `code::solver::solve` meets its contract. Each turn of the loop is a step of the elimination, and each way out is an answer.
-- Assumes nothing.
use Rattle.field.proofs.Base.{arith, sym, ◌∙◌}
use Rattle.code.proofs.solving.SolverSteps.{solving-on, solving-past, solved-one, solved-none, solved-several}
use Rattle.code.proofs.solver.solve.Goals.{in-Some, in_default}
use Rattle.code.proofs.solver.solve.Goals as goal

pub loop-c-preserved : goal.loop-c-preserved
loop-c-preserved c = elim c.match-find_pivot.branch [
  | in-Some w ↦ rw (w.t-is, w.r-is)
      (solving-on _ _ _ _ _ _ c.loop-c.invariant (omega arith) (omega arith) _ w.in-Some.ensures.1 w.in-Some.ensures.0 _ _ w.swap_rows.ensures w.clear_column-t.ensures)
  | in_default w ↦ rw (w.t-is, w.r-is) (solving-past _ _ _ _ _ _ c.loop-c.invariant (omega arith) (omega arith) w.in_default.ensures)
]

pub returns-then-is_some : goal.returns-then-is_some
returns-then-is_some c = solved-none _ _ _ _ _ _ c.loop-c.invariant (omega arith) (omega arith) _ c.find_pivot-2.ensures (sym c.is_some.ensures ∙ c.if-is_some.true)

pub returns-then-r-s : goal.returns-then-r-s
returns-then-r-s c =
    solved-several _ _ _ _ _ _ c.loop-c.invariant (omega arith) (omega arith) _ c.find_pivot-2.ensures (sym c.is_some.ensures ∙ c.if-is_some.false) c.if-r-s.true

pub returns : goal.returns
returns c =
    solved-one _ _ _ _ _ _ c.loop-c.invariant (omega arith) (omega arith) _ c.find_pivot-2.ensures (sym c.is_some.ensures ∙ c.if-is_some.false) (omega arith) _
    c.first_column.ensures
