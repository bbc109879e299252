-- `code::solver::add_times` meets its contract. Assumes nothing.
use Rattle.field.proofs.Base.{rules, ◌≡◌, sym, ap, ◌∙◌, ℕ, length}
use Rattle.field.proofs.Scaling.{multiples-own, multiple-row}
use Rattle.code.specs.Word.{at}
use Rattle.code.specs.inner.Matrix.{row_add}
use Rattle.code.proofs.solving.RowLaws.{below-order, eight-row_add}
use Rattle.code.proofs.solver.add_times.Goals as goal

pub returns-then-width-eq7 : goal.returns-then-width-eq7
returns-then-width-eq7 c =
    let a = c.args in
    let seven : a.width ≡ 7 = c.if-width-eq7.true in
    let long : length a.row ≡ 8 = search rules in
    let wide : length a.by ≡ 8 = search rules in
    λ k y. c.add_multiple.ensures
    ∙ multiple-row a.k (at a.by) c.multiples.result
    (multiples-own a.by c.multiples.result (λ j h. below-order seven (y j h)) c.multiples.ensures) a.row (below-order seven k)
    ∙ eight-row_add 7 a.row a.k a.by long wide
    ∙ ap (λ (m : ℕ). row_add m a.row a.k a.by) (sym seven)
