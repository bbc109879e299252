-- `card_csv::columns::put_columns` meets its contract. Before each turn the counts so far are written. Assumes nothing.
use Rattle.field.proofs.Base.{◌+◌, ◌*◌, ◌≤◌, take}
use Rattle.card.specs.Text.{Appends}
use Rattle.sheet.specs.Sheet.{quarters}
use Rattle.card_csv.specs.Text.{count_columns}
use Rattle.card_csv.specs.inner.Room.{count_size}
use Rattle.card_csv.proofs.columns.put_columns.Given as goal

abbrev pub invariant-loop-count : goal.invariant-loop-count
invariant-loop-count l =
    Appends l.initial.out (count_columns (take l.count-index (take quarters l.symbols))) l.out × (l.initial.out.room ≤ l.count-index * count_size + l.out.room)
