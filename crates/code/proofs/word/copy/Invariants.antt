-- `code::word::copy` meets its contract. Assumes nothing.
use Rattle.field.proofs.Base.{◌≡◌, ◌++◌, length, take, drop}
use Rattle.code.proofs.word.copy.Given as goal

abbrev pub invariant-loop-i : goal.invariant-loop-i
invariant-loop-i l = (length l.to ≡ length l.initial.to) × (l.to ≡ take l.i l.from ++ drop l.i l.initial.to)
