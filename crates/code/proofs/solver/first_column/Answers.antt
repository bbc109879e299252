-- `code::solver::first_column` meets its contract. The loop fills the list. Assumes nothing.
use Rattle.field.proofs.Base.{rules, arith, ◌≡◌, length}
use Rattle.code.specs.inner.Matrix.{unknowns, rows}
use Rattle.code.proofs.solving.RowLaws.{length-column, get_d-column}
use Rattle.code.proofs.Loops.{filled-end}
use Rattle.code.proofs.solver.first_column.Goals as goal

pub returns : goal.returns
returns c =
    let a = c.args.a in
    let tall : length a ≡ rows = search rules in
    filled-end c.loop-i.invariant (omega arith) tt _ (length-column a 0 unknowns tall (omega arith)) (get_d-column a 0 unknowns)
