-- The slots of a card by their numbers, and a record read as a day sheet. Assumes nothing.
use Rattle.std.proofs.Common.{Ok, Err, Result}
use Rattle.field.proofs.Base.{◌≡◌, refl, sym, ap, ap₂, ◌∙◌, subst, Bool, true, cond, List, [], ℕ, ◌+◌, ◌-◌, ◌≤◌, arith, length, take, drop, replicate}
use Rattle.field.proofs.Base.{length-append, length-replicate, length-drop, take_at, take_all, drop-drop}
use Rattle.field.specs.Question.{Verdict, Outcome, accepted, refused, after}
use Rattle.field.specs.declared.Question.{Question}
use Rattle.code.specs.Word.{checks, places, word_length, longest, Codeword}
use Rattle.code.specs.Call.{repair, within_of, within_written}
use Rattle.code.proofs.Lengths.{length-is, places-most}
use Rattle.code.proofs.Demands.{accepts}
use Rattle.card.specs.inner.Parts.{header_size}
use Rattle.card.specs.Record.{record_size, width_of, word_of, erasures_of, record_asked, reach_of, clear_record, on_accept, record_of, copy_written}
use Rattle.card.specs.Record.{copy_changes, copy_bytes, RestoresCopy}
use Rattle.card.specs.declared.RestoredCopy.{RestoredCopy}
use Rattle.card.specs.Record.{record_within_of, record_within_written, record_written}
use Rattle.card.specs.Slots.{record_at}
use Rattle.card.proofs.Layouts.{asked}
use Rattle.card.proofs.Recording.{copy-accepted}
use Rattle.sheet.specs.Sheet.{sheet_width, sheet_size, symbols_of}
use Rattle.sheet.specs.Call.{content_asked, read_sheet_asked}
use Rattle.sheet.specs.Demands.{SheetSymbols}
use Rattle.sheet.proofs.Asking.{after-accepted}
use Rattle.sheet.proofs.Sheets.{codeword-content, read-means, read-symbols}
use Rattle.report.specs.Day.{has_record, slot_of, Day, sheet, read_day, restored_day, copy_day, day_of}
use Rattle.report.specs.inner.Parts.{day_in, Whole}
use Rattle.report.specs.declared.day.Reading.{Reading}

-- ---- slots by number

module _ (card : List ℕ) (n : ℕ) where
  module _ (b : Bool) (e : b ≡ has_record card n) where
    pub slot-some : b ≡ true → record_at card (n - 1) ≡ slot_of card n
    slot-some t = ap (λ (x : Bool). cond x (record_at card (n - 1)) []) (sym t ∙ e)

-- ---- reading a restored record; n is what `word_length` says of its width

module _ (r : List ℕ) (W : Whole r) (n : ℕ) (en : n ≡ word_length (width_of r)) where
  word-length : n ≡ places (width_of r)
  word-length = length-is (width_of r) n en W.width

  pub word_fits : header_size + n ≤ length r
  word_fits = omega (arith, word-length, places-most (width_of r) W.width, W.size)

  word-part : take (header_size + n - header_size) (drop header_size r) ≡ word_of r
  word-part = ap (λ (k : ℕ). take k (drop header_size r)) back
    where
      back : header_size + n - header_size ≡ places (width_of r)
      back = omega (arith, word-length)

  -- v is what the questions about the content said
  module _ (k : ℕ) (v : Verdict) (ev : v ≡ content_asked (width_of r) (take (header_size + n - header_size) (drop header_size r))) where
    verdict : v ≡ read_sheet_asked (width_of r) (word_of r) sheet_size
    verdict =
        ev ∙ ap (content_asked (width_of r)) word-part
        ∙ sym (codeword-content (word_of r) (width_of r) sheet_size W.width W.codeword refl)

    day-is : read_day v k (symbols_of (word_of r)) ≡ restored_day k r
    day-is = ap (λ (u : Verdict). read_day u k (symbols_of (word_of r))) verdict

    pub restored-refused : (q : Question) → v ≡ Err q → (x : Result Reading Question) → x ≡ Err q → day_in x ≡ restored_day k r
    restored-refused q e x f = ap day_in f ∙ ap (λ (u : Verdict). read_day u k (symbols_of (word_of r))) (sym e) ∙ day-is

    pub restored-read : v ≡ (Ok tt) → (ss : List ℕ) → ss ≡ take sheet_size (drop (header_size + checks) r) → sheet k ss ≡ restored_day k r
    restored-read e ss es = ap (sheet k) same ∙ ap (λ (u : Verdict). read_day u k (symbols_of (word_of r))) (sym e) ∙ day-is
      where
        width : width_of r ≡ sheet_width
        width = (read-means (width_of r) (word_of r) (replicate sheet_size 0) (sym verdict ∙ e)).width

        -- at this width the word reaches to the end of the record
        whole : drop header_size r ≡ word_of r
        whole =
            sym (take_all (places sheet_width) (drop header_size r) (simp length-drop (omega (arith, W.size))))
            ∙ ap (λ (m : ℕ). take (places m) (drop header_size r)) (sym width)

        same : ss ≡ symbols_of (word_of r)
        same = es ∙ ap (take sheet_size) (sym (drop-drop checks header_size r) ∙ ap (drop checks) whole)

-- ---- a record restored in a copy

module _ (r : List ℕ) where
  -- what restoring wrote is a record with a codeword
  module _ (k : ℕ) (e : record_of r ≡ accepted k) where
    m : ℕ
    m = width_of r

    c : List ℕ
    c = within_written (width_of r) (word_of r) (erasures_of r) (reach_of r)

    passed : record_asked r ≡ (Ok tt)
    unfolding record_of record_within_of
    passed = after-accepted (record_asked r) (within_of (width_of r) (word_of r) (erasures_of r) (reach_of r)) k (sym e)

    codeword : Codeword m c
    unfolding record_of record_within_of m c
    codeword =
        ((accepts (width_of r) (word_of r) (erasures_of r) (reach_of r) k c).0
        (sym (ap (λ (v : Verdict). after v (within_of (width_of r) (word_of r) (erasures_of r) (reach_of r))) passed) ∙ e, refl)
        ).1.near.codeword

    copied : copy_written r ≡ clear_record m c
    unfolding record_of record_written record_within_written m c
    copied = sym (copy-accepted r k (sym e)) ∙ ap (λ (o : Outcome). on_accept o r (clear_record m c)) e

    clear_whole : Whole (clear_record m c)
    unfolding m
    clear_whole = record {
      size = simp (length-append, length-replicate) (omega (arith, codeword.size, places-most (width_of r) (asked r passed).width));
      width = (asked r passed).width;
      codeword = rw (take_at c (replicate (longest - length c) 0) (places m) codeword.size) codeword;
    }

    pub copy-is-whole : Whole (copy_written r)
    copy-is-whole = rw copied clear_whole

  -- x is what restoring in a copy gave
  module _ (x : Result RestoredCopy Question) (R : RestoresCopy r x) where
    pub copied-whole : (y : RestoredCopy) → x ≡ Ok y → Whole y.bytes
    copied-whole y e =
        let b : y.bytes ≡ copy_written r = ap copy_bytes (sym e) ∙ R.content in
        rw b (copy-is-whole y.changed (sym R.answer ∙ ap (λ (z : Result RestoredCopy Question). repair (copy_changes z)) e))

    pub day-restored : (y : RestoredCopy) → x ≡ Ok y → restored_day y.changed y.bytes ≡ day_of r
    unfolding day_of
    day-restored y e =
        ap₂ copy_day
        (ap (λ (z : Result RestoredCopy Question). repair (copy_changes z)) (sym e) ∙ R.answer)
        (ap copy_bytes (sym e) ∙ R.content)

    pub day-refused : (q : Question) → x ≡ Err q → (z : Result Reading Question) → z ≡ Err q → day_in z ≡ day_of r
    unfolding day_of
    day-refused q e z f =
        ap day_in f
        ∙ ap (λ (o : Outcome). copy_day o (copy_written r))
        (ap (λ (y : Result RestoredCopy Question). repair (copy_changes y)) (sym e) ∙ R.answer)

-- ---- what a reading tells

module _ (d : Day) (x : Result Reading Question) (T : day_in x ≡ d) where
  pub told-sheet : (y : Reading) → x ≡ Ok y → d ≡ sheet y.changed y.symbols
  told-sheet y e = sym T ∙ ap day_in e

-- ---- a record that is a day sheet

-- what is known of it: restoring was accepted, so that the record has its length, and the symbols are those of a sheet
pub record IsSheet (r : List ℕ) (k : ℕ) (ss : List ℕ) : Type 0 where
  pub size : length r ≡ record_size
  pub restored : record_of r ≡ accepted k
  pub symbols : SheetSymbols ss

pub is-sheet : (r : List ℕ) (k : ℕ) (ss : List ℕ) → day_of r ≡ sheet k ss → IsSheet r k ss
unfolding day_of
is-sheet r k ss e = restored (record_of r) refl e
  where
    read : (n : ℕ) → record_of r ≡ accepted n → (v : Verdict) → read_sheet_asked (width_of (copy_written r)) (word_of (copy_written r)) sheet_size ≡ v
        → read_day v n (symbols_of (word_of (copy_written r))) ≡ sheet k ss → IsSheet r k ss
    read n o (Ok tt) f g =
        let D = (read-means (width_of (copy_written r)) (word_of (copy_written r)) (replicate sheet_size 0) f).sheet in
        let en : n ≡ k = cc in
        let es : symbols_of (word_of (copy_written r)) ≡ ss = cc in
        record {
          size = (asked r (passed r n o)).size;
          restored = o ∙ ap accepted en;
          symbols = subst SheetSymbols es (read-symbols (word_of (copy_written r)) D);
        }
    read n o (Err q) f g = let z : ◌≡◌ {A = ℕ} 0 1 = cc in absurd (omega arith)

    restored : (o : Outcome) → record_of r ≡ o → copy_day o (copy_written r) ≡ sheet k ss → IsSheet r k ss
    restored (accepted n) o g = read n o (read_sheet_asked (width_of (copy_written r)) (word_of (copy_written r)) sheet_size) refl g
    restored (refused n) o g = let z : ◌≡◌ {A = ℕ} 0 1 = cc in absurd (omega arith)
