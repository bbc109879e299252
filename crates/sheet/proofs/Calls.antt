-- From the answers of the questions to the contracts of the calls. Assumes nothing.
use Rattle.std.proofs.Common.{Ok}
use Rattle.field.specs.Question.{Verdict, accepted}
use Rattle.field.proofs.Base.{◌≡◌, refl, sym, ap, ◌∙◌, List, ℕ, ◌+◌, ◌≤◌, arith, length}
use mathlib.Core.Path.{subst₂}
use Rattle.code.specs.Word.{checks}
use Rattle.code.specs.Call.{written, done, encode_asked, Encodes}
use Rattle.code.proofs.calls.Passing.{encode-passes}
use Rattle.sheet.specs.Sheet.{sheet_width, sheet_size, sheet_data, sheet_word, symbols_of}
use Rattle.sheet.specs.Call.{write_sheet_asked, WritesSheet, read_sheet_asked}
use Rattle.sheet.specs.Demands.{Writable}
use Rattle.sheet.proofs.Asking.{after-accepted}
use Rattle.sheet.proofs.Sheets.{sheet-data, write-means, read-means, read-symbols}

-- ---- writing; v is the verdict of the questions

module _ (m : ℕ) (ss old : List ℕ) (v : Verdict) (e : v ≡ write_sheet_asked m ss (length old)) where
  module _ (p : v ≡ (Ok tt)) where
    asked : write_sheet_asked m ss (length old) ≡ (Ok tt)
    asked = sym e ∙ p

    pub writes-size : length ss ≡ sheet_size
    writes-size = (write-means m ss old asked).symbols.size

    -- the encoder was handed the data of the sheet
    pub writes : (message : List ℕ) → message ≡ sheet_data ss → (u : Verdict) (new : List ℕ) → Encodes m message old u new → WritesSheet m ss old u new
    writes message d u new E =
        record {
          answer = E'.answer ∙ ap done (passes ∙ sym asked);
          word = E'.word ∙ ap (λ (x : Verdict). written x old (sheet_word ss)) (passes ∙ sym asked);
        }
      where
        W : Writable m ss old
        W = write-means m ss old asked

        E' : Encodes sheet_width (sheet_data ss) old u new
        E' = subst₂ (λ (n : ℕ) (ds : List ℕ). Encodes n ds old u new) W.width d E

        passes : encode_asked sheet_width (sheet_data ss) (length old) ≡ (Ok tt)
        passes = encode-passes sheet_width refl (sheet_data ss) old (sheet-data ss W.symbols) W.word_size

-- ---- reading; v has the outcome of the questions

module _ (m : ℕ) (w old : List ℕ) (v : Verdict) (e : done v ≡ done (read_sheet_asked m w (length old))) where
  module _ (p : v ≡ (Ok tt)) where
    passed : read_sheet_asked m w (length old) ≡ (Ok tt)
    passed = after-accepted (read_sheet_asked m w (length old)) (accepted 0) 0 (ap done (sym p) ∙ e)

    pub reads-long : checks + sheet_size ≤ length w
    reads-long = omega (arith, (read-means m w old passed).sheet.codeword.size)

    pub reads-size : length old ≡ length (symbols_of w)
    reads-size =
        let R = read-means m w old passed in
        R.symbols-size ∙ sym (read-symbols w R.sheet).size
