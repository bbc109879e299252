-- `field::arithmetic::multiply7` meets its contract: the exponents of two symbols make that of their product. Assumes nothing.
use Rattle.field.proofs.Base.{sym, ap, ◌∙◌, ℕ, ◌%◌}
use Rattle.field.specs.Field.{product}
use Rattle.field.proofs.Ring.{product-zero-l, product-zero-r}
use Rattle.field.proofs.Bytes.{unit-own}
use Rattle.field.proofs.Widths.{field_at, Width.seven}
use Rattle.field.proofs.Steps.{product-exponents}
use Rattle.field.proofs.arithmetic.multiply7.Goals as goal
use Rattle.field.proofs.arithmetic.multiply7.Goals.{then-a-eq0-via-then-a-eq0, then-a-eq0-via-else-a-eq0+then-b-eq0}

pub returns-then-a-eq0 : goal.returns-then-a-eq0
returns-then-a-eq0 c =
    let x = c.args.a % 128 in
    let y = c.args.b % 128 in
    elim c.then-a-eq0.branch [
      | then-a-eq0-via-then-a-eq0 w ↦ sym (ap (λ (z : ℕ). product 7 z y) w.if-a-eq0.true ∙ product-zero-l 7 y)
      | then-a-eq0-via-else-a-eq0+then-b-eq0 w ↦ sym (ap (product 7 x) w.if-b-eq0.true ∙ product-zero-r 7 x)
    ]

pub returns : goal.returns
returns c =
    let i = c.logarithm in
    let j = c.logarithm-2 in
    c.power_of_alpha.ensures
    ∙ product-exponents 7 (field_at seven) _ _ i.result.0 j.result.0 (i.ensures.1 ∙ unit-own _ c.if-a-eq0.false)
    (j.ensures.1 ∙ unit-own _ c.if-b-eq0.false)
