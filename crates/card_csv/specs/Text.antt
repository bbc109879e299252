-- The day sheets of a card as CSV: a header, a line for each sheet, and what is counted beside them. Assumes nothing.
use Rattle.std.specs.Prelude.{Bool, true, false, cond, List, [], ◌∷◌, ◌++◌, ℕ, zero, suc, ◌+◌, take}
use Rattle.code.specs.Word.{at}
use Rattle.card.specs.Slots.{is_blank, over_slots}
use Rattle.card.specs.Listing.{bytes_of, decimal, newline}
use Rattle.sheet.specs.Sheet.{quarters, pump_at}
use Rattle.report.specs.Day.{Day, sheet, no_sheet, day_of}
use Rattle.report.specs.Window.{date_of}
use Rattle.report.specs.Table.{date_text}
use Rattle.report.specs.Quarter.{clock_text}
use Rattle.card_csv.specs.declared.Counts.{Counts}

-- the byte between two columns
abbrev pub separator : ℕ
separator = 44

-- ---- the header

-- the times of the first n quarter hours, each with a separator before it
unfoldable pub time_columns : ℕ → List ℕ
time_columns zero = []
time_columns (suc n) = time_columns n ++ (separator ∷ clock_text n)

-- the names before them: with the columns slot and changed, or without
abbrev pub header_names : Bool → List ℕ
header_names true = bytes_of "slot,date,pump,changed"
header_names false = bytes_of "date,pump"

-- the header: slot,date,pump,changed,00:00,00:15,..,23:45, or without slot and changed
unfoldable pub header_with : Bool → List ℕ
header_with full = header_names full ++ time_columns quarters

-- as a line, with all columns
abbrev pub sheets_header : List ℕ
sheets_header = header_with true ++ (newline ∷ [])

-- ---- the line of a sheet

-- the counts, each with a separator before it
unfoldable pub count_columns : List ℕ → List ℕ
count_columns [] = []
count_columns (x ∷ xs) = separator ∷ decimal x ++ count_columns xs

-- slot n holds a sheet of which restoring changed k places: slot, date, pump, changed places, and the 96 counts
unfoldable pub sheet_columns : ℕ → ℕ → List ℕ → List ℕ
sheet_columns n k ss =
    decimal n
    ++ (separator ∷ date_text (date_of ss)
    ++ (separator ∷ decimal (at ss pump_at)
    ++ (separator ∷ decimal k
    ++ count_columns (take quarters ss))))

-- the same as a line
abbrev pub sheet_line : ℕ → ℕ → List ℕ → List ℕ
sheet_line n k ss = sheet_columns n k ss ++ (newline ∷ [])

-- ---- slot by slot

-- a record that is no day sheet has no line
abbrev pub day_line : ℕ → Day → List ℕ
day_line n (sheet k ss) = sheet_line n k ss
day_line n (no_sheet q) = []

-- nor has a blank slot
abbrev pub slot_sheet : ℕ → List ℕ → List ℕ
slot_sheet n slot = cond (is_blank slot) [] (day_line n (day_of slot))

-- the next slot's number, and one more sheet
abbrev pub one_sheet : Counts → Counts
one_sheet s = record { next = s.next + 1; sheets = s.sheets + 1; others = s.others; blanks = s.blanks }

-- one more record that is no sheet
abbrev pub one_other : Counts → Counts
one_other s = record { next = s.next + 1; sheets = s.sheets; others = s.others + 1; blanks = s.blanks }

-- one more blank slot
abbrev pub blank_tally : Counts → Counts
blank_tally s = record { next = s.next + 1; sheets = s.sheets; others = s.others; blanks = s.blanks + 1 }

-- the counts with one more record
abbrev pub day_counted : Counts → Day → Counts
day_counted s (sheet k ss) = one_sheet s
day_counted s (no_sheet q) = one_other s

-- the counts with one more slot
abbrev pub slot_tallied : Counts → List ℕ → Counts
slot_tallied s slot = cond (is_blank slot) (blank_tally s) (day_counted s (day_of slot))

-- some text, and what has been counted with it
pub record SheetsTold : Type 0 where
  pub text : List ℕ
  pub counts : Counts

-- the line of one slot more
abbrev pub slot_sheet_told : SheetsTold → List ℕ → SheetsTold
slot_sheet_told t slot = record { text = t.text ++ slot_sheet t.counts.next slot; counts = slot_tallied t.counts slot }

-- before the first slot
abbrev pub sheets_untold : Counts → SheetsTold
sheets_untold s = record { text = []; counts = s }

-- ---- a part of a card, and a whole card

-- the lines of a part, where s has been counted before it
abbrev pub part_sheets : Counts → List ℕ → List ℕ
part_sheets s part = (over_slots slot_sheet_told (sheets_untold s) part).text

-- what has been counted behind the part
abbrev pub part_counts : Counts → List ℕ → Counts
part_counts s part = over_slots slot_tallied s part

-- before the first slot of a card: slots are numbered from 1
abbrev pub untallied : Counts
untallied = record { next = 1; sheets = 0; others = 0; blanks = 0 }

-- the day sheets of a card: the header, and a line for each
abbrev pub sheets_text : List ℕ → List ℕ
sheets_text card = sheets_header ++ part_sheets untallied card

-- what is said of the counts: sheets N, no sheets M, blank B
abbrev pub tally_line : Counts → List ℕ
tally_line s =
    bytes_of "sheets "
    ++ (decimal s.sheets
    ++ (bytes_of ", no sheets "
    ++ (decimal s.others
    ++ (bytes_of ", blank "
    ++ (decimal s.blanks
    ++ (newline ∷ []))))))
