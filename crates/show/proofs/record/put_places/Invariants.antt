-- `show::record::put_places` meets its contract. Before turn p the lines of the places below p are written. Assumes nothing.
use Rattle.field.proofs.Base.{◌+◌, ◌*◌, ◌≤◌}
use Rattle.card.specs.Text.{Appends}
use Rattle.show.specs.Text.{texts}
use Rattle.show.specs.Look.{place_at}
use Rattle.show.specs.inner.Looks.{longest_place}
use Rattle.show.proofs.record.put_places.Given as goal

abbrev pub invariant-loop-p : goal.invariant-loop-p
invariant-loop-p l = Appends l.initial.out (texts (place_at l.old l.new) l.p) l.out × (l.initial.out.room ≤ l.p * longest_place + l.out.room)
