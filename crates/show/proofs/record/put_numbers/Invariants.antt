-- `show::record::put_numbers` meets its contract. Before each turn the numbers so far are written. Assumes nothing.
use Rattle.field.proofs.Base.{◌+◌, ◌*◌, ◌≤◌}
use Rattle.card.specs.Text.{Appends}
use Rattle.show.specs.Text.{texts}
use Rattle.show.specs.Look.{spaced_at}
use Rattle.show.specs.inner.Looks.{longest_spaced}
use Rattle.show.proofs.record.put_numbers.Given as goal

abbrev pub invariant-loop-x : goal.invariant-loop-x
invariant-loop-x l = Appends l.initial.out (texts (spaced_at l.xs) l.x-index) l.out × (l.initial.out.room ≤ l.x-index * longest_spaced + l.out.room)
