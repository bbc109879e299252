-- `show::record::put_hours` meets its contract. Before turn h the lines of the hours below h are written. Assumes nothing.
use Rattle.field.proofs.Base.{◌+◌, ◌*◌, ◌≤◌}
use Rattle.card.specs.Text.{Appends}
use Rattle.show.specs.Text.{texts}
use Rattle.show.specs.Look.{hour_line}
use Rattle.show.specs.inner.Looks.{longest_hour}
use Rattle.show.proofs.record.put_hours.Given as goal

abbrev pub invariant-loop-h : goal.invariant-loop-h
invariant-loop-h l = Appends l.initial.out (texts (hour_line l.ss) l.h) l.out × (l.initial.out.room ≤ l.h * longest_hour + l.out.room)
