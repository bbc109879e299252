-- `card_csv::reader::read_counts` meets its contract. Before turn i the first i counts are read, and the rest is what follows. Assumes nothing.
use Rattle.field.proofs.Base.{◌≡◌, length, drop}
use Rattle.sheet.specs.Sheet.{quarters, sheet_size}
use Rattle.card_csv.proofs.ReadLines.{Counted}
use Rattle.card_csv.proofs.reader.read_counts.Given as goal

abbrev pub invariant-loop-i : goal.invariant-loop-i
invariant-loop-i l = (length l.symbols ≡ sheet_size)
    × (drop quarters l.symbols ≡ drop quarters l.initial.symbols)
    × Counted l.text l.i l.symbols l.rest
