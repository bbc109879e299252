-- The slots of a card by their numbers, and a record read as a day sheet. Assumes nothing.
use Rattle.std.specs.Prelude.{Ok, Err}
use Rattle.field.specs.Question.{Verdict}
use Rattle.std.specs.Prelude.{Bool, cond, List, [], ℕ, ◌-◌, length, replicate}
use Rattle.field.specs.Question.{Outcome, accepted, refused, refusal}
use Rattle.card.specs.Record.{width_of, word_of, record_of, copy_written}
use Rattle.card.specs.Slots.{record_count, record_at}
use Rattle.card.specs.Card.{is_number}
use Rattle.sheet.specs.Sheet.{sheet_size, symbols_of}
use Rattle.sheet.specs.Call.{read_sheet_asked}

-- ---- slots by number

-- document 02's question 17: has the card a record of the number n? They count from 1, blank slots too
abbrev pub has_record : List ℕ → ℕ → Bool
has_record card n = is_number (record_count (length card)) n

-- the slot with the number n, as it stands on the card; nothing where the card has none
abbrev pub slot_of : List ℕ → ℕ → List ℕ
slot_of card n = cond (has_record card n) (record_at card (n - 1)) []

-- ---- a record, restored in a copy and read as a day sheet

-- a day sheet, with the number of places that restoring changed and the symbols c_0 to c_99; or a refusal number
pub data Day : Type 0 where
  sheet : ℕ → List ℕ → Day
  no_sheet : ℕ → Day

-- the questions of reading have been put to the word of a record of which k places were changed; ss are its symbols
abbrev pub read_day : Verdict → ℕ → List ℕ → Day
read_day (Ok tt) k ss = sheet k ss
read_day (Err q) k ss = no_sheet (refusal q)

-- a restored record, of which k places were changed, read as a day sheet
abbrev pub restored_day : ℕ → List ℕ → Day
restored_day k r = read_day (read_sheet_asked (width_of r) (word_of r) sheet_size) k (symbols_of (word_of r))

-- what restoring answered comes before what reading the copy answers
abbrev pub copy_day : Outcome → List ℕ → Day
copy_day (accepted k) copy = restored_day k copy
copy_day (refused n) copy = no_sheet n

-- the record as a day sheet
unfoldable pub day_of : List ℕ → Day
day_of r = copy_day (record_of r) (copy_written r)

-- ---- the answer of read_day

-- the symbols of a day, 0 each on a refusal
abbrev pub day_symbols : Day → List ℕ
day_symbols (sheet k ss) = ss
day_symbols (no_sheet n) = replicate sheet_size 0
