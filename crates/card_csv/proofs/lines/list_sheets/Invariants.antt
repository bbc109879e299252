-- `card_csv::lines::list_sheets` meets its contract. Before turn i the lines of the first i slots are written, and these are counted. Assumes
-- nothing.
use Rattle.field.proofs.Base.{◌≡◌, ◌+◌, ◌*◌, ◌≤◌}
use Rattle.card.specs.Text.{Appends}
use Rattle.card_csv.specs.Batch.{longest_sheet}
use Rattle.card_csv.proofs.SheetLines.{told_first}
use Rattle.card_csv.proofs.lines.list_sheets.Given as goal

abbrev pub invariant-loop-i : goal.invariant-loop-i
invariant-loop-i l =
    Appends l.initial.out (told_first l.initial.done l.batch l.i).text l.out
    × (l.done ≡ (told_first l.initial.done l.batch l.i).counts)
    × (l.initial.out.room ≤ l.i * longest_sheet + l.out.room)
