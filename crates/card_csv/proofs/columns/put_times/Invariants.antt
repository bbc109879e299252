-- `card_csv::columns::put_times` meets its contract. Before turn n the times of the first n quarter hours are written. Assumes nothing.
use Rattle.field.proofs.Base.{◌+◌, ◌*◌, ◌≤◌}
use Rattle.card.specs.Text.{Appends}
use Rattle.card_csv.specs.Text.{time_columns}
use Rattle.card_csv.specs.inner.Room.{time_size}
use Rattle.card_csv.proofs.columns.put_times.Given as goal

abbrev pub invariant-loop-n : goal.invariant-loop-n
invariant-loop-n l = Appends l.initial.out (time_columns l.n) l.out × (l.initial.out.room ≤ l.n * time_size + l.out.room)
