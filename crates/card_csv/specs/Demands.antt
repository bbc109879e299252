-- The demands on the text, as statements about the definitions. The calls' contracts say that they answer by these definitions;
-- proofs/Demands.antt proves each statement under the same name in small letters. Assumes nothing.
use Rattle.std.specs.Prelude.{Ok, ◌≡◌, Bool, true, false, List, ◌++◌, ℕ, ◌*◌, length}
use Rattle.card.specs.Record.{record_size}
use Rattle.sheet.specs.Demands.{SheetSymbols}
use Rattle.report.specs.Day.{sheet as sheet_day, day_of}
use Rattle.card_csv.specs.declared.Counts.{Counts}
use Rattle.card_csv.specs.Text.{sheet_columns, part_sheets, part_counts, sheets_text}
use Rattle.card_csv.specs.Reading.{read_line}
use Rattle.card_csv.specs.Record.{sheet_record, record_made}
use Rattle.card_csv.specs.Making.{card_of}
use Rattle.card_csv.specs.RoundTrip.{short_columns, AllSheets, sheets_card, canonical_text}

-- a card may come in parts, the first of whole slots: the second goes on from what has been counted
abbrev pub InParts : Type 0
InParts =
    (a b : List ℕ) (j : ℕ) → length a ≡ j * record_size → (s : Counts)
    → (part_sheets s (a ++ b) ≡ part_sheets s a ++ part_sheets (part_counts s a) b) × (part_counts s (a ++ b) ≡ part_counts (part_counts s a) b)

-- ---- a line there and back

-- what a line stands for are the symbols of a sheet
abbrev pub LineSheet : Type 0
LineSheet = (full : Bool) (line ss : List ℕ) → read_line full line ≡ Ok ss → SheetSymbols ss

-- a line that is printed is read back, whatever slot and changed places it has
abbrev pub LineReadBack : Type 0
LineReadBack = (n k : ℕ) (ss : List ℕ) → SheetSymbols ss → read_line true (sheet_columns n k ss) ≡ Ok ss

-- so is a line without these two columns
abbrev pub ShortReadBack : Type 0
ShortReadBack = (ss : List ℕ) → SheetSymbols ss → read_line false (short_columns ss) ≡ Ok ss

-- of the symbols of a sheet the record of that sheet is made
abbrev pub RecordMade : Type 0
RecordMade = (ss : List ℕ) → SheetSymbols ss → record_made ss ≡ sheet_record ss

-- the record of a sheet is that sheet, with no place to change
abbrev pub RecordDay : Type 0
RecordDay = (ss : List ℕ) → SheetSymbols ss → day_of (sheet_record ss) ≡ sheet_day 0 ss

-- ---- a card there and back

-- the text of a card of clean sheets is the canonical one
abbrev pub CanonicalPrinted : Type 0
CanonicalPrinted = (sheets : List (List ℕ)) → AllSheets sheets → sheets_text (sheets_card sheets) ≡ canonical_text sheets

-- from the text of a card of clean sheets the card is made again
abbrev pub CardMadeAgain : Type 0
CardMadeAgain = (sheets : List (List ℕ)) → AllSheets sheets → card_of (sheets_text (sheets_card sheets)) ≡ sheets_card sheets

-- the card that is made of a canonical text has that text
abbrev pub TextPrintedAgain : Type 0
TextPrintedAgain = (sheets : List (List ℕ)) → AllSheets sheets → sheets_text (card_of (canonical_text sheets)) ≡ canonical_text sheets
