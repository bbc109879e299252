-- The demands on day sheets and on the calendar, as statements about the definitions. The calls' contracts say that they answer by these
-- definitions; proofs/Demands.antt proves each statement under the same name in small letters. Assumes nothing.
use Rattle.std.specs.Prelude.{◌≡◌, ◌↔◌, true, List, [], ◌∷◌, map, ℕ, ◌≤◌, ◌<◌, length}
use Rattle.field.specs.Field.{order}
use Rattle.field.specs.Question.{accepted}
use Rattle.code.specs.Word.{places, items, at, Codeword, data_of}
use Rattle.sheet.specs.Calendar.{days_in}
use Rattle.sheet.specs.Sheet.{sheet_width, sheet_size, is_dated, symbols_of}
use Rattle.sheet.specs.Call.{write_sheet_of, write_sheet_written, read_sheet_of, read_sheet_written}

-- ---- day sheets

-- the symbols of a sheet: 100 of them, each below q, with a date that exists
pub record SheetSymbols (ss : List ℕ) : Type 0 where
  pub size : length ss ≡ sheet_size
  pub symbols : (i : ℕ) → i < sheet_size → at ss i < order sheet_width
  pub date : is_dated ss ≡ true

-- a day sheet: a codeword of width 7 with a date that exists, and c_100 to c_126 zero
pub record DaySheet (w : List ℕ) : Type 0 where
  pub codeword : Codeword sheet_width w
  pub date : is_dated (symbols_of w) ≡ true
  pub unused : (i : ℕ) → sheet_size ≤ i → i < items sheet_width → at (data_of w) i ≡ 0

-- at width 7 the symbols of a sheet can be written into a word of its length
pub record Writable (m : ℕ) (ss word : List ℕ) : Type 0 where
  pub width : m ≡ sheet_width
  pub word_size : length word ≡ places sheet_width
  pub symbols : SheetSymbols ss

-- at width 7 a day sheet can be read into 100 symbols
pub record Readable (m : ℕ) (w ss : List ℕ) : Type 0 where
  pub width : m ≡ sheet_width
  pub symbols-size : length ss ≡ sheet_size
  pub sheet : DaySheet w

-- these are written, and nothing else is
abbrev pub WriteAccepts : Type 0
WriteAccepts = (m : ℕ) (ss word : List ℕ) → (write_sheet_of m ss word ≡ accepted 0) ↔ Writable m ss word

-- these are read, and nothing else is
abbrev pub ReadAccepts : Type 0
ReadAccepts = (m : ℕ) (w ss : List ℕ) → (read_sheet_of m w ss ≡ accepted 0) ↔ Readable m w ss

-- what was written is read back
abbrev pub SheetReadBack : Type 0
SheetReadBack =
    (m : ℕ) (ss word out : List ℕ) → write_sheet_of m ss word ≡ accepted 0 → length out ≡ sheet_size
    → (read_sheet_of m (write_sheet_written m ss word) out ≡ accepted 0) × (read_sheet_written m (write_sheet_written m ss word) out ≡ ss)

-- what was read, written again, gives the word back
abbrev pub SheetWrittenBack : Type 0
SheetWrittenBack =
    (m : ℕ) (w ss out : List ℕ) → read_sheet_of m w ss ≡ accepted 0 → length out ≡ places sheet_width
    → (write_sheet_of m (read_sheet_written m w ss) out ≡ accepted 0) × (write_sheet_written m (read_sheet_written m w ss) out ≡ w)

-- ---- the calendar

-- the days of the months from January to December
abbrev pub months : ℕ → List ℕ
months y = map (days_in y) (1 ∷ 2 ∷ 3 ∷ 4 ∷ 5 ∷ 6 ∷ 7 ∷ 8 ∷ 9 ∷ 10 ∷ 11 ∷ 12 ∷ [])

-- the days of the months where February has f
abbrev pub months_with : ℕ → List ℕ
months_with f = 31 ∷ f ∷ 31 ∷ 30 ∷ 31 ∷ 30 ∷ 31 ∷ 31 ∷ 30 ∷ 31 ∷ 30 ∷ 31 ∷ []

-- 2000 and 2024 are leap years, 2023 and 2100 are none
abbrev pub Years : Type 0
Years =
    (months 2000 ≡ months_with 29) × (months 2024 ≡ months_with 29) × (months 2023 ≡ months_with 28) × (months 2100 ≡ months_with 28)

-- 0 and 13 are no months
abbrev pub NoMonths : Type 0
NoMonths = (y : ℕ) → (days_in y 0 ≡ 0) × (days_in y 13 ≡ 0)
