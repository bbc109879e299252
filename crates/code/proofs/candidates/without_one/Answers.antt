-- `code::candidates::without_one` meets its contract. Assumes nothing.
use Rattle.field.proofs.Base.{arith}
use Rattle.code.proofs.restoring.Trying.{sums_lt}
use Rattle.code.proofs.candidates.without_one.Goals as goal

pub returns-then-p-ge5 : goal.returns-then-p-ge5
returns-then-p-ge5 c w R = (λ h. c.differences.ensures R.width h (sums_lt R), λ l. absurd (omega (arith, l, c.if-p-ge5.true)))
