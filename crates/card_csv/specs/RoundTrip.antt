-- There and back: the cards and texts of which nothing is lost. Assumes nothing.
use Rattle.std.specs.Prelude.{List, [], ◌∷◌, ◌++◌, ℕ, ◌+◌, take}
use Rattle.code.specs.Word.{at}
use Rattle.card.specs.Listing.{decimal}
use Rattle.sheet.specs.Sheet.{quarters, pump_at}
use Rattle.sheet.specs.Demands.{SheetSymbols}
use Rattle.report.specs.Window.{date_of}
use Rattle.report.specs.Table.{date_text}
use Rattle.card_csv.specs.Text.{separator, count_columns, sheets_header, sheet_line}
use Rattle.card_csv.specs.Record.{sheet_record}

-- each of these is the symbols of a sheet
abbrev pub AllSheets : List (List ℕ) → Type 0
AllSheets [] = Unit
AllSheets (ss ∷ sheets) = SheetSymbols ss × AllSheets sheets

-- a card with a clean record of each sheet, and no blank slot
abbrev pub sheets_card : List (List ℕ) → List ℕ
sheets_card [] = []
sheets_card (ss ∷ sheets) = sheet_record ss ++ sheets_card sheets

-- a line for each sheet, numbered from n on, with 0 changed places
abbrev pub sheets_lines : ℕ → List (List ℕ) → List ℕ
sheets_lines n [] = []
sheets_lines n (ss ∷ sheets) = sheet_line n 0 ss ++ sheets_lines (n + 1) sheets

-- the canonical text of these sheets
abbrev pub canonical_text : List (List ℕ) → List ℕ
canonical_text sheets = sheets_header ++ sheets_lines 1 sheets

-- the columns of a sheet without slot and changed places
unfoldable pub short_columns : List ℕ → List ℕ
short_columns ss = date_text (date_of ss) ++ (separator ∷ decimal (at ss pump_at) ++ count_columns (take quarters ss))
