-- `field::arithmetic::invert` meets its contract. Assumes nothing.
use Rattle.field.proofs.Base.{refl, sym, ap, ◌∙◌, ℕ, ◌-◌, ◌%◌, arith}
use Rattle.field.specs.Field.{order, power, inverse}
use Rattle.field.specs.inner.Bytes.{Small}
use Rattle.field.proofs.Bytes.{width-own, width-large, small_width, raised_at, inverted-at, operand_low, unit-own}
use Rattle.field.proofs.Steps.{inverse-exponent, zero-power-ne}
use Rattle.field.proofs.Widths.{field_at, Width.seven}
use Rattle.field.proofs.arithmetic.invert.Goals as goal

pub returns-then-a-eq0 : goal.returns-then-a-eq0
unfolding inverse
returns-then-a-eq0 c =
    sym (inverted-at _ 7 (width-large _ (λ l. l.if-width-lt3-1.true) (λ g. g.if-width-lt6-1.false) c.in_default.branch-raw) _
    ∙ ap (inverse 7) c.if-a-eq0.true ∙ zero-power-ne 7 126 (λ z. omega (arith, z)))

pub returns-in-3-to-5 : goal.returns-in-3-to-5
unfolding inverse
returns-in-3-to-5 c =
    let s = c.args in
    let m = s.width in
    let small : Small m = (c.in-3-to-5.if-width-lt3-own.false, omega arith) in
    let own = width-own m (small_width m small) in
    c.raise.ensures ∙ raised_at m m own s.a _
    ∙ ap (λ (q : ℕ). power m (s.a % order m) (q - 2)) (c.small_order.ensures.1 small) ∙ sym (inverted-at m m own s.a)

pub returns-else-a-eq0 : goal.returns-else-a-eq0
returns-else-a-eq0 c =
    let i = c.logarithm in
    let a = c.args.a in
    c.power_of_alpha.ensures
    ∙ inverse-exponent 7 (field_at seven) (a % 128) i.result.0 (operand_low 7 a refl).symbol (omega (arith, i.ensures.0))
    (i.ensures.1 ∙ unit-own _ c.if-a-eq0.false)
    ∙ sym (inverted-at _ 7 (width-large _ (λ l. l.if-width-lt3-1.true) (λ g. g.if-width-lt6-1.false) c.in_default.branch-raw) _)
