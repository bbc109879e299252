-- `code::solver::add_products` meets its contract. The loop fills the row. Assumes nothing.
use Rattle.field.proofs.Base.{rules, arith, ◌≡◌, sym, ◌∙◌, length}
use Rattle.code.specs.inner.Matrix.{columns}
use Rattle.code.proofs.solving.RowLaws.{length-row_add, get_d-row_add}
use Rattle.code.proofs.Loops.{filled-end}
use Rattle.code.proofs.solver.add_products.Goals as goal

pub returns : goal.returns
returns c =
    let start = c.args in
    let long : length start.row ≡ columns = search rules in
    let wide : length start.by ≡ columns = search rules in
    λ k y. filled-end c.loop-j.invariant (omega arith) (k, y) _ (length-row_add start.width start.row start.k start.by ∙ long)
    (λ j h. get_d-row_add start.width start.row start.k start.by j (long ∙ sym wide) (omega arith))
