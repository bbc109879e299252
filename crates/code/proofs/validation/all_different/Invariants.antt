-- `code::validation::all_different` meets its contract. Assumes nothing.
use Rattle.field.proofs.Base.{◌≡◌, drop}
use Rattle.code.specs.Erasure.{distinct}
use Rattle.code.proofs.validation.all_different.Given as goal

abbrev pub invariant-loop-i : goal.invariant-loop-i
invariant-loop-i l = distinct l.xs ≡ distinct (drop l.i l.xs)
