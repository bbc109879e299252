-- `programs::seek::number_in` meets its contract. Assumes nothing.
use Rattle.field.proofs.Base.{◌≡◌, drop}
use Rattle.programs.specs.Seek.{number_from}
use Rattle.programs.proofs.seek.number_in.Given as goal

abbrev pub invariant-loop-b : goal.invariant-loop-b
invariant-loop-b l = number_from l.v (drop l.b-index l.text) ≡ number_from 0 l.text
