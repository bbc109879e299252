-- The making of a card from a text: the lines of a text, how it stands behind each of them, and their records, up to a line that is refused.
-- Assumes nothing.
use Rattle.std.specs.Prelude.{Ok, Err, Result, ◌≡◌, Bool, true, false, cond, ◌&&◌, List, [], ◌∷◌, ◌++◌, ℕ, ◌+◌, ◌≤◌, eqb, ltb, length, drop}
use Rattle.card.specs.Listing.{newline}
use Rattle.card.specs.Text.{Written, Appends}
use Rattle.card_csv.specs.declared.Header.{Header}
use Rattle.card_csv.specs.declared.Header.TheVariants.{Full, Short, Other}
use Rattle.card_csv.specs.declared.TextFault.{TextFault}
use Rattle.card_csv.specs.declared.TextFault.TheVariants.{NoHeader, Wrong}
use Rattle.card_csv.specs.declared.TextState.{TextState}
use Rattle.card_csv.specs.declared.Made.{Made}
use Rattle.card_csv.specs.Reading.{Line, read_line, header_in}
use Rattle.card_csv.specs.Record.{sheet_record}

-- ---- the lines of a text

-- the line, if it has bytes: the last one may come without its end
abbrev pub last_line : List ℕ → List (List ℕ)
last_line [] = []
last_line (x ∷ xs) = (x ∷ xs) ∷ []

-- the lines of a text, of whose first line so much has been seen
unfoldable pub lines_from : List ℕ → List ℕ → List (List ℕ)
lines_from line [] = last_line line
lines_from line (x ∷ xs) = cond (eqb x newline) (line ∷ lines_from [] xs) (lines_from (line ++ (x ∷ [])) xs)

-- ---- how a text stands

-- no line was refused, or the text has a fault
abbrev pub TextVerdict : Type 0
TextVerdict = Result (Unit {0}) TextFault

-- no line was refused
abbrev pub is_fine : TextVerdict → Bool
is_fine (Ok tt) = true
is_fine (Err f) = false

-- before the first line
abbrev pub text_begun : TextState
text_begun = record { full = false; lines = 0; verdict = Ok tt }

-- the first line is the header
abbrev pub header_read : TextState → Header → TextState
header_read s Full = record { full = true; lines = s.lines + 1; verdict = Ok tt }
header_read s Short = record { full = false; lines = s.lines + 1; verdict = Ok tt }
header_read s Other = record { full = false; lines = s.lines + 1; verdict = Err NoHeader }

-- a line below it is a sheet, or refused
abbrev pub sheet_read : TextState → Line → TextState
sheet_read s (Ok ss) = record { full = s.full; lines = s.lines + 1; verdict = Ok tt }
sheet_read s (Err f) = record { full = s.full; lines = s.lines + 1; verdict = Err (Wrong f) }

-- how the text stands behind one line more: a refused line ends it
unfoldable pub line_read : TextState → List ℕ → TextState
line_read s line =
    cond (is_fine s.verdict) (cond (eqb s.lines 0) (header_read s (header_in line)) (sheet_read s (read_line s.full line))) s

-- behind these lines
unfoldable pub lines_read : TextState → List (List ℕ) → TextState
lines_read s [] = s
lines_read s (l ∷ ls) = lines_read (line_read s l) ls

-- how a whole text stands
abbrev pub text_state : List ℕ → TextState
text_state text = lines_read text_begun (lines_from [] text)

-- a text is complete: it has a header, and no line is refused
abbrev pub is_complete : TextState → Bool
is_complete s = ltb 0 s.lines && is_fine s.verdict

-- ---- the card of a text

-- the record of a line; a line with a fault has none
abbrev pub line_record : Line → List ℕ
line_record (Ok ss) = sheet_record ss
line_record (Err f) = []

-- the record that is made of the line; the header has none
unfoldable pub line_made : TextState → List ℕ → List ℕ
line_made s line = cond (is_fine s.verdict) (cond (eqb s.lines 0) [] (line_record (read_line s.full line))) []

-- the records of these lines, up to a refused one
unfoldable pub lines_made : TextState → List (List ℕ) → List ℕ
lines_made s [] = []
lines_made s (l ∷ ls) = line_made s l ++ lines_made (line_read s l) ls

-- the card of a whole text
abbrev pub card_of : List ℕ → List ℕ
card_of text = lines_made text_begun (lines_from [] text)

-- ---- a text in parts

-- the last of these lines is refused, and none before it
pub record EndsRefused (s : TextState) (lines : List (List ℕ)) : Type 0 where
  pub before : List (List ℕ)
  pub last : List ℕ
  pub split : lines ≡ before ++ (last ∷ [])
  pub fine : is_fine (lines_read s before).verdict ≡ true

-- the lines that end in the text are taken, up to a refused one and no further, and their records are written. Where none is refused, what
-- stands behind them has no end of a line.
pub record MakesRecords (text : List ℕ) (s : TextState) (old : Written) (r : Made) (new : Written) : Type 0 where
  pub lines : List (List ℕ)
  pub cut : (more : List ℕ) → lines_from [] (text ++ more) ≡ lines ++ lines_from [] (drop r.taken text ++ more)
  pub state : r.state ≡ lines_read s lines
  pub records : Appends old (lines_made s lines) new
  pub inside : r.taken ≤ length text
  pub few : r.state.lines ≤ s.lines + r.taken
  pub all : is_fine r.state.verdict ≡ true → lines_from [] (drop r.taken text) ≡ last_line (drop r.taken text)
  pub stop : is_fine r.state.verdict ≡ false → EndsRefused s lines

-- the last line, which may come without its end, is taken, if it has bytes
pub record MakesLast (line : List ℕ) (s : TextState) (old : Written) (r : Made) (new : Written) : Type 0 where
  pub state : r.state ≡ lines_read s (last_line line)
  pub taken : r.taken ≡ length line
  pub records : Appends old (lines_made s (last_line line)) new
