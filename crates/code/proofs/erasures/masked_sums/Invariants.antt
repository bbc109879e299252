-- `code::erasures::masked_sums` meets its contract: zeros have taken the place of the symbols at the first erasures. Assumes nothing.
use Rattle.code.proofs.restoring.Repairing.{Masking}
use Rattle.code.proofs.erasures.masked_sums.Given as goal

abbrev pub invariant-loop-p : goal.invariant-loop-p
invariant-loop-p l = Masking l.word l.erasures l.row l.p-index
