-- `code::solver::scale_row` meets its contract. Assumes nothing.
use Rattle.field.proofs.Base.{rules, ◌≡◌, ◌∙◌, length}
use Rattle.field.proofs.Widths.{field_of}
use Rattle.code.proofs.solving.RowLaws.{zero-row_add}
use Rattle.code.proofs.solver.scale_row.Goals as goal

pub returns : goal.returns
returns c =
    let a = c.args in
    let long : length a.row ≡ 8 = search rules in
    λ k y. c.add_times.ensures k y ∙ zero-row_add (field_of a.width k.width) a.k a.row long
