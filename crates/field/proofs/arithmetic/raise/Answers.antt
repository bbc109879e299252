-- `field::arithmetic::raise` meets its contract. Assumes nothing.
use Rattle.field.proofs.Base.{arith, sym, ap, ◌∙◌, subst, ℕ, ◌%◌}
use Rattle.field.specs.Field.{power}
use Rattle.field.specs.inner.Operand.{Operand}
use Rattle.field.specs.inner.Bytes.{Small}
use Rattle.field.proofs.Bytes.{width-own, width-large, small_width, operand_low, raised_at}
use Rattle.field.proofs.arithmetic.raise.Goals as goal

pub returns-in-3-to-5 : goal.returns-in-3-to-5
returns-in-3-to-5 c =
    let s = c.args in
    let m = s.width in
    let i = s.e.0 in
    let small : Small m = (c.in-3-to-5.if-width-lt3-own.false, omega arith) in
    let w = small_width m small in
    let e = c.small_order.ensures.1 small in
    c.raise_by_squares.ensures (subst (λ (q : ℕ). Operand m (s.a % q)) (sym e) (operand_low m s.a w))
    ∙ ap (λ (q : ℕ). power m (s.a % q) i) e ∙ sym (raised_at m m (width-own m w) s.a i)

pub returns-in_default : goal.returns-in_default
returns-in_default c = c.raise7.ensures ∙ sym (raised_at _ 7 (width-large _ (λ l. l.if-width-lt3-1.true) (λ g. g.if-width-lt6-1.false) c.in_default.branch-raw) _ _)
