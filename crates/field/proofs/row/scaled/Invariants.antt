-- `field::row::scaled` meets its contract: so far those of the first i numbers are added that the digits of k name. Assumes nothing.
use Rattle.field.proofs.Base.{◌≡◌}
use Rattle.field.proofs.Scaling.{named-below}
use Rattle.field.proofs.row.scaled.Given as goal

abbrev pub invariant-loop-i : goal.invariant-loop-i
invariant-loop-i l = l.sum ≡ named-below l.i l.k l.m-items
