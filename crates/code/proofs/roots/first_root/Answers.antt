-- `code::roots::first_root` meets its contract. Assumes nothing.
use Rattle.field.proofs.Base.{arith}
use Rattle.field.proofs.Bytes.{ratio-own}
use Rattle.code.proofs.finding.Scanning.{ratio-root}
use Rattle.code.proofs.roots.first_root.Goals as goal

pub returns-then-has_ratio : goal.returns-then-has_ratio
returns-then-has_ratio c =
    let R = c.has_ratio.ensures c.if-has_ratio.true in
    (omega (arith, R.all, c.ratio_exponent.ensures.0), λ a b w C. ratio-root R c.ratio_exponent.ensures.0 (ratio-own _ _ _ c.ratio_exponent.ensures.1) C)
