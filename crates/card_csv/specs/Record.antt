-- The record of a day sheet that has nothing to restore. Assumes nothing.
use Rattle.std.specs.Prelude.{List, ℕ, replicate}
use Rattle.code.specs.Word.{longest}
use Rattle.card.specs.Record.{clear_record}
use Rattle.sheet.specs.Sheet.{sheet_width, sheet_word}
use Rattle.sheet.specs.Call.{write_sheet_written}

-- the record of width 7 with the codeword of these symbols and no erasures
abbrev pub sheet_record : List ℕ → List ℕ
sheet_record ss = clear_record sheet_width (sheet_word ss)

-- the record that is made of any symbols: that of their sheet, and a record of zeros where they are no sheet's
abbrev pub record_made : List ℕ → List ℕ
record_made ss = clear_record sheet_width (write_sheet_written sheet_width ss (replicate longest 0))
