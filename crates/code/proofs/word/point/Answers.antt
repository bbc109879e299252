-- `code::word::point` meets its contract. Assumes nothing.
use Rattle.field.proofs.Base.{◌≡◌, sym, ap, ◌∙◌, ℕ, ◌-◌, ◌*◌, arith}
use Rattle.field.specs.Field.{power, α}
use Rattle.field.specs.declared.Exponent.{Exponent}
use Rattle.code.specs.inner.Place.{column}
use Rattle.code.proofs.Columns.{column-power}
use Rattle.code.proofs.word.point.Goals as goal

pub returns-then-width-eq7 : goal.returns-then-width-eq7
returns-then-width-eq7 c =
    λ w.
    (let p = c.args.p.0 in
    let once : p - 5 ≡ 1 * (p - 5) = omega arith in
    c.power_of_alpha.ensures ∙ ap (λ (e : Exponent). power 7 α e.0) c.exponent_of.ensures ∙ ap (power 7 α) once
    ∙ sym (column-power 7 p 1 c.requires) ∙ ap (λ (m : ℕ). column m p 1) (sym c.if-width-eq7.true))
