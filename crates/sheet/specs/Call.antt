-- What the calls of this crate answer, and what the lent memory holds afterwards, on every input. Questions 11 to 13 are document 02's, named
-- by their refusals. Of an output the questions are given the length alone. Assumes nothing.
use Rattle.std.specs.Prelude.{Ok, ◌≡◌, List, ℕ, eqb, length}
use Rattle.field.specs.Field.{order}
use Rattle.field.specs.Question.{Outcome, Verdict, ask, all_below}
use Rattle.field.specs.declared.Question.TheVariants.{Length, Symbol, Syndrome, SheetWidth, Date, Unused}
use Rattle.code.specs.Call.{written, all_zero, zero_syndromes, done, word_asked}
use Rattle.sheet.specs.Sheet.{sheet_width, sheet_size, is_dated, sheet_word, symbols_of, unused_symbols}

-- questions 1 and 2, put to a word of n bytes and a slice of k symbols, then question 7, put to the symbols xs of either, then the next
abbrev pub slices_asked : ℕ → ℕ → ℕ → List ℕ → Verdict → Verdict
slices_asked m n k xs next = word_asked m n (ask (eqb k sheet_size) Length (ask (all_below (order m) xs) Symbol next))

-- questions 11 and 12, put to the symbols of the sheet, then the next
abbrev pub sheet_asked : ℕ → List ℕ → Verdict → Verdict
sheet_asked m ss next = ask (eqb m sheet_width) SheetWidth (ask (is_dated ss) Date next)

-- ---- writing a day sheet: questions 1, 2 and 7, the last put to the symbols, then 11 and 12

-- the questions, put to the symbols and a word of n bytes
unfoldable pub write_sheet_asked : ℕ → List ℕ → ℕ → Verdict
write_sheet_asked m ss n = slices_asked m n (length ss) ss (sheet_asked m ss (Ok tt))

-- what the call answers
abbrev pub write_sheet_of : ℕ → List ℕ → List ℕ → Outcome
write_sheet_of m ss word = done (write_sheet_asked m ss (length word))

-- the word after the call
abbrev pub write_sheet_written : ℕ → List ℕ → List ℕ → List ℕ
write_sheet_written m ss word = written (write_sheet_asked m ss (length word)) word (sheet_word ss)

-- the call's promise: what write_sheet answers and leaves in the word
pub record WritesSheet (m : ℕ) (ss old : List ℕ) (v : Verdict) (new : List ℕ) : Type 0 where
  pub answer : done v ≡ write_sheet_of m ss old
  pub word : new ≡ write_sheet_written m ss old

-- ---- reading a day sheet: questions 1, 2, 7 and 9, put to the word, then 11, 12 and 13

-- questions 11, 12 and 13, put to a codeword
abbrev pub content_asked : ℕ → List ℕ → Verdict
content_asked m w = sheet_asked m (symbols_of w) (ask (all_zero (unused_symbols w)) Unused (Ok tt))

-- the questions, put to the word and a slice of k symbols
unfoldable pub read_sheet_asked : ℕ → List ℕ → ℕ → Verdict
read_sheet_asked m w k = slices_asked m (length w) k w (ask (zero_syndromes m w) Syndrome (content_asked m w))

-- what the call answers
abbrev pub read_sheet_of : ℕ → List ℕ → List ℕ → Outcome
read_sheet_of m w ss = done (read_sheet_asked m w (length ss))

-- the symbols after the call
abbrev pub read_sheet_written : ℕ → List ℕ → List ℕ → List ℕ
read_sheet_written m w ss = written (read_sheet_asked m w (length ss)) ss (symbols_of w)

-- the call's promise: what read_sheet answers and leaves in the symbols
pub record ReadsSheet (m : ℕ) (w old : List ℕ) (v : Verdict) (new : List ℕ) : Type 0 where
  pub answer : done v ≡ read_sheet_of m w old
  pub symbols : new ≡ read_sheet_written m w old
