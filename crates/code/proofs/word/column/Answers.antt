-- `code::word::column` meets its contract. Assumes nothing.
use Rattle.field.proofs.Base.{◌≡◌, refl, sym, Bool, true, false, cond, eqb, ap, ◌∙◌, lt-ltb}
use Rattle.std.specs.Int.{from_bool}
use Rattle.field.specs.Field.{power, α}
use Rattle.field.proofs.Widths.{field_of}
use Rattle.field.proofs.Bytes.{raised-power}
use Rattle.field.specs.declared.Exponent.{Exponent}
use Rattle.code.specs.inner.Place.{multiple_of, column}
use Rattle.code.specs.Word.{checks}
use Rattle.code.proofs.Columns.{column-power}
use Rattle.code.proofs.word.column.Goals as goal

one-if : (b : Bool) → from_bool b ≡ cond b 1 0
one-if true = refl
one-if false = refl

pub returns-then-p-lt5 : goal.returns-then-p-lt5
unfolding column
returns-then-p-lt5 c w = rw (lt-ltb c.args.p.0 checks c.if-p-lt5.true) (c.from.ensures ∙ one-if (eqb c.args.p.0 c.args.k))

pub returns : goal.returns
returns c =
    λ w.
    (let a = c.args in
    let m = a.width in
    c.raise.ensures
    ∙ raised-power (record { width = w; symbol = (field_of m w).α-lt }) _
    ∙ ap (λ (e : Exponent). power m α e.0) (c.multiple.ensures ∙ ap (multiple_of a.k) c.exponent_of.ensures)
    ∙ sym (column-power m a.p.0 a.k c.if-p-lt5.false))
