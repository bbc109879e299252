-- `field::arithmetic::ratio_exponent` meets its contract. Assumes nothing.
use Rattle.field.proofs.Base.{arith}
use Rattle.field.proofs.Widths.{field_at, Width.seven}
use Rattle.field.proofs.Steps.{ratio-exponents}
use Rattle.field.proofs.arithmetic.ratio_exponent.Goals as goal

pub returns : goal.returns
returns c =
    let i = c.logarithm-2 in
    let j = c.logarithm in (
      omega arith,
      ratio-exponents 7 (field_at seven) _ _ i.result.0 j.result.0 (omega (arith, i.ensures.0)) i.ensures.1 j.ensures.1,
    )
