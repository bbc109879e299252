-- The demands of specs/Demands.antt, each under its name in small letters. Assumes nothing.
use Rattle.std.proofs.Common.{Ok}
use Rattle.field.specs.Question.{Verdict, accepted}
use Rattle.field.proofs.Base.{◌≡◌, refl, sym, ap, ◌∙◌, subst, List, ℕ, length}
use Rattle.code.specs.Call.{written, done}
use Rattle.sheet.specs.Calendar.{is_leap, days_in}
use Rattle.sheet.specs.Sheet.{sheet_word, symbols_of}
use Rattle.sheet.specs.Call.{write_sheet_asked, write_sheet_of, write_sheet_written, read_sheet_asked, read_sheet_of, read_sheet_written}
use Rattle.sheet.specs.Demands.{Writable, Readable, WriteAccepts, ReadAccepts, SheetReadBack, SheetWrittenBack, Years, NoMonths}
use Rattle.sheet.proofs.Asking.{after-accepted}
use Rattle.sheet.proofs.Sheets.{write-passes, write-means, read-passes, read-means, written-sheet, sheet-symbols, read-symbols, sheet-again}

-- ---- day sheets

writable-passes : (m : ℕ) (ss word : List ℕ) → Writable m ss word → write_sheet_asked m ss (length word) ≡ (Ok tt)
writable-passes m ss word W =
    ap (λ (n : ℕ). write_sheet_asked n ss (length word)) W.width ∙ write-passes ss W.symbols (length word) W.word_size

readable-passes : (m : ℕ) (w ss : List ℕ) → Readable m w ss → read_sheet_asked m w (length ss) ≡ (Ok tt)
readable-passes m w ss R =
    ap (λ (n : ℕ). read_sheet_asked n w (length ss)) R.width ∙ read-passes w (length ss) R.sheet R.symbols-size

pub write-accepts : WriteAccepts
write-accepts m ss word =
    (λ e. write-means m ss word (after-accepted _ _ 0 (sym e)), λ W. ap done (writable-passes m ss word W))

pub read-accepts : ReadAccepts
read-accepts m w ss =
    (λ e. read-means m w ss (after-accepted _ _ 0 (sym e)), λ R. ap done (readable-passes m w ss R))

pub sheet-read-back : SheetReadBack
sheet-read-back m ss word out e l =
    let a : write_sheet_asked m ss (length word) ≡ (Ok tt) = after-accepted _ _ 0 (sym e) in
    let W = write-means m ss word a in
    let r = readable-passes m (sheet_word ss) out (record { width = W.width; symbols-size = l; sheet = written-sheet ss W.symbols }) in
    subst (λ (w : List ℕ). (read_sheet_of m w out ≡ accepted 0) × (read_sheet_written m w out ≡ ss))
    (sym (ap (λ (v : Verdict). written v word (sheet_word ss)) a))
    (ap done r, ap (λ (v : Verdict). written v out (symbols_of (sheet_word ss))) r ∙ sheet-symbols ss W.symbols)

pub sheet-written-back : SheetWrittenBack
sheet-written-back m w ss out e l =
    let a : read_sheet_asked m w (length ss) ≡ (Ok tt) = after-accepted _ _ 0 (sym e) in
    let R = read-means m w ss a in
    let r = writable-passes m (symbols_of w) out (record { width = R.width; word_size = l; symbols = read-symbols w R.sheet }) in
    subst (λ (xs : List ℕ). (write_sheet_of m xs out ≡ accepted 0) × (write_sheet_written m xs out ≡ w))
    (sym (ap (λ (v : Verdict). written v ss (symbols_of w)) a))
    (ap done r, ap (λ (v : Verdict). written v out (sheet_word (symbols_of w))) r ∙ sheet-again w R.sheet)

-- ---- the calendar

pub years : Years
unfolding days_in is_leap
years = (refl, refl, refl, refl)

pub no-months : NoMonths
unfolding days_in
no-months y = (refl, refl)
