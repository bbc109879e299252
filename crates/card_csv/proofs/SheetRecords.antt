-- The record of a sheet: as it is made, and as it is read. Assumes nothing.
use Rattle.std.proofs.Common.{Ok, Err}
use Rattle.field.specs.Question.{Verdict, accepted}
use Rattle.field.proofs.Base.{◌≡◌, refl, sym, ap, ap₂, ◌∙◌, Bool, true, false, ◌&&◌, List, [], ◌∷◌, ◌++◌, ℕ, ◌-◌, arith, eqb, length, replicate}
use Rattle.code.specs.Word.{longest, Codeword}
use Rattle.code.specs.Near.{radius}
use Rattle.code.specs.Call.{written}
use Rattle.card.specs.Record.{erasure_bytes, record_size, clear_record, word_of, record_of, record_written, copy_written}
use Rattle.card.specs.Slots.{blank_in, is_blank}
use Rattle.card.proofs.Again.{clear-size, clear-word, clear-accepted, clear_stays}
use Rattle.card.proofs.Recording.{copy-accepted}
use Rattle.sheet.specs.Sheet.{sheet_width, sheet_size, sheet_word, symbols_of}
use Rattle.sheet.specs.Call.{write_sheet_asked, write_sheet_written, WritesSheet, read_sheet_asked}
use Rattle.sheet.specs.Demands.{SheetSymbols}
use Rattle.sheet.proofs.Sheets.{write-passes, write-means, written-sheet, sheet-symbols, read-passes}
use Rattle.report.specs.Day.{sheet, read_day, copy_day, day_of}
use Rattle.card_csv.specs.Record.{sheet_record}
use Rattle.card_csv.specs.Demands.{RecordMade}

-- the codeword of a sheet
word-long : (ss : List ℕ) → SheetSymbols ss → length (sheet_word ss) ≡ longest
word-long ss S = (written-sheet ss S).codeword.size

-- ---- as it is made: its word is written over an old one

module _ (ss old : List ℕ) (size : length old ≡ longest) (v : Verdict) (new : List ℕ) (W : WritesSheet sheet_width ss old v new) where
  pub word_kept : length new ≡ longest
  word_kept = ap length W.word ∙ go (write_sheet_asked sheet_width ss (length old)) refl
    where
      go : (u : Verdict) → write_sheet_asked sheet_width ss (length old) ≡ u → length (written u old (sheet_word ss)) ≡ longest
      go (Ok tt) e = word-long ss (write-means sheet_width ss old e).symbols
      go (Err q) e = size

  -- behind the header of a record without erasures
  pub record-made : (bytes : List ℕ) → bytes ≡ (sheet_width ∷ 0 ∷ replicate erasure_bytes 255) ++ (new ++ [])
      → bytes ≡ clear_record sheet_width (write_sheet_written sheet_width ss old)
  record-made bytes e =
      let none : longest - length new ≡ 0 = omega (arith, word_kept) in
      e
      ∙ ap (λ (n : ℕ). (sheet_width ∷ 0 ∷ replicate erasure_bytes 255) ++ (new ++ replicate n 0)) (sym none)
      ∙ ap (clear_record sheet_width) W.word

-- of a sheet's symbols the record is the sheet's
pub made-sheet : RecordMade
made-sheet ss S =
    ap (λ (u : Verdict). clear_record sheet_width (written u (replicate longest 0) (sheet_word ss))) (write-passes ss S longest refl)

-- ---- as it is read

and-false : (a : Bool) → (a && false) ≡ false
and-false true = refl
and-false false = refl

module _ (ss : List ℕ) (S : SheetSymbols ss) where
  codeword : Codeword sheet_width (sheet_word ss)
  codeword = (written-sheet ss S).codeword

  pub record-long : length (sheet_record ss) ≡ record_size
  record-long = clear-size sheet_width refl (sheet_word ss) codeword

  pub record-written : is_blank (sheet_record ss) ≡ false
  unfolding blank_in
  record-written = and-false (eqb (length (sheet_record ss)) record_size)

  restored : record_of (sheet_record ss) ≡ accepted 0
  unfolding record_of
  restored = clear-accepted sheet_width refl (sheet_word ss) codeword (radius sheet_width 0) (omega arith)

  copied : copy_written (sheet_record ss) ≡ sheet_record ss
  unfolding record_written
  copied =
      sym (copy-accepted (sheet_record ss) 0 (sym restored))
      ∙ clear_stays sheet_width refl (sheet_word ss) codeword (radius sheet_width 0) (omega arith)

  pub record-day : day_of (sheet_record ss) ≡ sheet 0 ss
  unfolding day_of
  record-day =
      let word : word_of (sheet_record ss) ≡ sheet_word ss = clear-word sheet_width refl (sheet_word ss) codeword in
      let asked : read_sheet_asked sheet_width (sheet_word ss) sheet_size ≡ (Ok tt) = read-passes (sheet_word ss) sheet_size (written-sheet ss S) refl in
      ap₂ copy_day restored copied
      ∙ ap (λ (w : List ℕ). read_day (read_sheet_asked sheet_width w sheet_size) 0 (symbols_of w)) word
      ∙ ap₂ (λ (v : Verdict) (xs : List ℕ). read_day v 0 xs) asked (sheet-symbols ss S)
