-- `programs::arguments::place_among` meets its contract. Assumes nothing.
use Rattle.field.proofs.Base.{◌≡◌, drop}
use Rattle.programs.specs.Arguments.{argument_from}
use Rattle.programs.proofs.arguments.place_among.Given as goal

abbrev pub invariant-loop-i : goal.invariant-loop-i
invariant-loop-i l = argument_from 0 l.roles l.role l.n ≡ argument_from l.i (drop l.i l.roles) l.role l.left
