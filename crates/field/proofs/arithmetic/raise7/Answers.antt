-- `field::arithmetic::raise7` meets its contract: an exponent of α counts modulo 127. Assumes nothing.
use Rattle.field.proofs.Base.{sym, ap, ◌∙◌, ℕ, ◌%◌}
use Rattle.field.specs.Field.{power}
use Rattle.field.proofs.Powers.{power_zero}
use Rattle.field.proofs.Bytes.{unit-own}
use Rattle.field.proofs.Widths.{field_at, Width.seven}
use Rattle.field.proofs.Steps.{power-exponent, zero-power-ne}
use Rattle.field.proofs.arithmetic.raise7.Goals as goal

pub returns-then-e-eq0 : goal.returns-then-e-eq0
returns-then-e-eq0 c = sym (ap (power 7 _) c.if-e-eq0.true ∙ power_zero 7 _)

pub returns-then-a-eq0 : goal.returns-then-a-eq0
returns-then-a-eq0 c =
    let e = c.args.e.0 in sym (ap (λ (x : ℕ). power 7 x e) c.if-a-eq0.true ∙ zero-power-ne 7 e c.if-e-eq0.false)

pub returns : goal.returns
returns c =
    let i = c.logarithm in
    c.power_of_alpha.ensures
    ∙ power-exponent 7 (field_at seven) (c.args.a % 128) c.args.e.0 i.result.0 (i.ensures.1 ∙ unit-own _ c.if-a-eq0.false)
