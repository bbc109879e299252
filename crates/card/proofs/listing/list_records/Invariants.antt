-- `card::listing::list_records` meets its contract. Before turn i the lines of the first i slots are written, and the listing has come to
-- the next one. Assumes nothing.
use Rattle.field.proofs.Base.{◌≡◌}
use Rattle.card.specs.Text.{Appends}
use Rattle.card.proofs.Lines.{told_first}
use Rattle.card.proofs.listing.list_records.Given as goal

abbrev pub invariant-loop-i : goal.invariant-loop-i
invariant-loop-i l = Appends l.initial.out (told_first l.initial.done l.batch l.i).text l.out × (l.done ≡ (told_first l.initial.done l.batch l.i).progress)
