-- `field::arithmetic::raise_by_squares` meets its contract: the product so far, times the power of the rest, is the power. Assumes nothing.
use Rattle.field.proofs.Base.{ap, ◌∙◌, ℕ, ◌/◌, arith}
use Rattle.field.specs.Field.{product, power}
use Rattle.field.proofs.Widths.{field_of}
use Rattle.field.proofs.Ask.{operand-of}
use Rattle.field.proofs.Bytes.{multiplied-product}
use Rattle.field.proofs.Steps.{power-odd, power-even, power-end}
use Rattle.field.proofs.arithmetic.raise_by_squares.Goals as goal
use Rattle.field.proofs.arithmetic.raise_by_squares.Goals.{then-n-eq1, else-n-eq1}

pub loop-n-init : goal.loop-n-init
loop-n-init c =
    λ o.
    (let m = c.args.width in
    let F = field_of m o.width in
    (record { width = o.width; symbol = F.one-lt }, o, F.one_product (power m c.args.a c.args.e.0) (F.power-lt c.args.a c.args.e.0)))

pub loop-n-preserved : goal.loop-n-preserved
loop-n-preserved c =
    λ o.
    (let m = c.args.width in
    let F = field_of m o.width in
    let r = c.loop-n.r in
    let x = c.loop-n.x in
    let n = c.loop-n.n in
    let i = c.loop-n.invariant o in
    let t = power m c.args.a c.args.e.0 in
    let square = c.multiply-x.ensures ∙ multiplied-product i.1 i.1 in
    let r₁ = c.if-n-eq1.r in (
      elim c.if-n-eq1.branch [
        | then-n-eq1 w ↦ operand-of m r₁ (product m r x) o.width (w.r-is ∙ w.multiply-r.ensures ∙ multiplied-product i.0 i.1) (F.product_lt r x)
        | else-n-eq1 w ↦ operand-of m r₁ r o.width w.r-is i.0.symbol
      ],
      operand-of m c.multiply-x.result (product m x x) o.width square (F.product_lt x x),
      ap (λ (z : ℕ). product m r₁ (power m z (n / 2))) square
          ∙ elim c.if-n-eq1.branch [
            | then-n-eq1 w ↦ ap (λ (z : ℕ). product m z (power m (product m x x) (n / 2))) (w.r-is ∙ w.multiply-r.ensures ∙ multiplied-product i.0 i.1)
                ∙ power-odd m F.positive r x n t i.1.symbol w.if-n-eq1.true i.2
            | else-n-eq1 w ↦ ap (λ (z : ℕ). product m z (power m (product m x x) (n / 2))) w.r-is
                ∙ power-even m F.positive r x n t i.1.symbol (omega (arith, w.if-n-eq1.false)) i.2
          ],
    ))

pub returns : goal.returns
returns c =
    λ o.
    (let m = c.args.width in
    let i = c.loop-n.invariant o in
    power-end m (field_of m o.width).positive c.loop-n.r c.loop-n.x c.loop-n.n _ i.0.symbol (omega arith) i.2)
