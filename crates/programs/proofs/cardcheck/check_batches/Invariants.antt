-- `programs::cardcheck::check_batches` meets its contract. Assumes nothing.
use Rattle.field.proofs.Base.{◌≡◌, true}
use Rattle.programs.proofs.Checking.{Fine}
use Rattle.programs.proofs.cardcheck.check_batches.Given as goal

abbrev pub invariant-loop-i : goal.invariant-loop-i
invariant-loop-i l = (l.out ≡ l.initial.out) × (l.input.going ≡ true) × Fine l.i l.input
