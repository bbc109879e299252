-- `code::erasures::row_of_places` meets its contract. Assumes nothing.
use Rattle.field.proofs.Base.{◌≡◌, ◌≤◌, length, take}
use Rattle.code.specs.inner.Place.{numbers}
use Rattle.code.specs.inner.Matrix.{unknowns}
use Rattle.code.proofs.erasures.row_of_places.Given as goal

abbrev pub invariant-loop-i : goal.invariant-loop-i
invariant-loop-i l = (length l.out ≡ unknowns) × (l.i ≤ length l.erasures) × (take l.i (numbers l.out) ≡ take l.i l.erasures)
