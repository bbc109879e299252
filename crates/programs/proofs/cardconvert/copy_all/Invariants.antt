-- `programs::cardconvert::copy_all` meets its contract. Before a turn all but `left` slots are copied. Assumes nothing.
use Rattle.field.proofs.Base.{◌≤◌}
use Rattle.programs.proofs.Converting.{Copied}
use Rattle.programs.proofs.cardconvert.copy_all.Given as goal

abbrev pub invariant-loop-left : goal.invariant-loop-left
invariant-loop-left l = (l.left ≤ l.slots) × Copied l.k l.slots l.left l.c

abbrev pub decreases-loop-left : goal.decreases-loop-left
decreases-loop-left l = l.left
