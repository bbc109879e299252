-- `card::records::all_are` meets its contract. Assumes nothing.
use Rattle.field.proofs.Base.{◌≡◌, drop}
use Rattle.card.specs.Record.{all_are}
use Rattle.card.proofs.records.all_are.Given as goal

abbrev pub invariant-loop-b : goal.invariant-loop-b
invariant-loop-b l = all_are l.x l.xs ≡ all_are l.x (drop l.b-index l.xs)
