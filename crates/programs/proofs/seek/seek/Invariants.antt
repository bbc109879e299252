-- `programs::seek::seek` meets its contract. Assumes nothing.
use Rattle.programs.proofs.Seeking.{Passed}
use Rattle.programs.proofs.seek.seek.Given as goal

abbrev pub invariant-loop-i : goal.invariant-loop-i
invariant-loop-i l = Passed l.k l.i l.input
