-- `field::arithmetic::multiply_by_digits` meets its contract: what is added so far and the product of the rest make the product. Assumes nothing.
use Rattle.field.proofs.Base.{◌≡◌, sym, ap, ◌∙◌, subst, ℕ, ◌/◌, ◌%◌, ◌<◌, arith}
use native.Mathlib.Nat.{mod-lt}
use lib.Pow.{pow_pos}
use Rattle.field.specs.Polynomial.{add}
use Rattle.field.specs.Field.{order, double, product}
use Rattle.field.specs.inner.Bytes.{multiplied}
use Rattle.field.proofs.Polynomial.{add_zero_l}
use Rattle.field.proofs.Ring.{double-lt}
use Rattle.field.proofs.Widths.{field_of}
use Rattle.field.proofs.Bytes.{width-own, small_width, multiplied-at}
use Rattle.field.proofs.Steps.{product-odd, product-even, product-end}
use Rattle.field.proofs.arithmetic.multiply_by_digits.Goals as goal
use Rattle.field.proofs.arithmetic.multiply_by_digits.Goals.{then-y-eq1, else-y-eq1}

pub loop-y-init : goal.loop-y-init
loop-y-init c =
    λ small.
    (let s = c.args in
    let m = s.width in
    let e = c.small_order-q.ensures.1 small in (
      subst (λ (q : ℕ). s.b % q < order m) (sym e) (mod-lt s.b (pow_pos m)),
      add_zero_l _ ∙ ap (λ (q : ℕ). product m (s.a % q) (s.b % q)) e ∙ sym (multiplied-at m m (width-own m (small_width m small)) s.a s.b),
    ))

pub loop-y-preserved : goal.loop-y-preserved
unfolding add
loop-y-preserved c =
    λ small.
    (let m = c.args.width in
    let w = small_width m small in
    let pos = (field_of m w).positive in
    let x = c.loop-y.x in
    let y = c.loop-y.y in
    let t = multiplied m c.args.a c.args.b in
    let i = c.loop-y.invariant small in
    let e = c.small_order-q.ensures.1 small in
    let d : c.double-x.result ≡ double m x = c.double-x.ensures m w e (c.small_polynomial-p.ensures small) (subst (λ (z : ℕ). x < z) (sym e) i.0) in (
      subst (λ (z : ℕ). z < order m) (sym d) (double-lt m x i.0),
      ap (λ (z : ℕ). add c.if-y-eq1.r (product m (y / 2) z)) d
          ∙ elim c.if-y-eq1.branch [
            | then-y-eq1 w' ↦ ap (λ (z : ℕ). add z (product m (y / 2) (double m x))) w'.r-is ∙ product-odd m pos c.loop-y.r y x t i.0 w'.if-y-eq1.true i.1
            | else-y-eq1 w' ↦ ap (λ (z : ℕ). add z (product m (y / 2) (double m x))) w'.r-is ∙ product-even m pos c.loop-y.r y x t i.0 (omega (arith, w'.if-y-eq1.false)) i.1
          ],
    ))

pub returns : goal.returns
returns c =
    λ small.
    (let m = c.args.width in
    product-end m (field_of m (small_width m small)).positive c.loop-y.r c.loop-y.y c.loop-y.x _ (omega arith) (c.loop-y.invariant small).1)
