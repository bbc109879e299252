-- `code::erasures::columns_of` meets its contract: the first j columns are filled in. Assumes nothing.
use Rattle.field.proofs.Base.{◌≤◌, length, take}
use Rattle.code.specs.inner.Place.{numbers}
use Rattle.code.specs.inner.Correction.{SystemColumns}
use Rattle.code.proofs.erasures.columns_of.Given as goal

abbrev pub invariant-loop-j : goal.invariant-loop-j
invariant-loop-j l = (l.j ≤ length l.places) × SystemColumns l.width (take l.j (numbers l.places)) l.columns
