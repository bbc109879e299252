-- What a comparison refuses, and in which order. Assumes nothing.
use Rattle.std.proofs.Common.{Ok, Err}
use Rattle.field.specs.Question.{Verdict}
use Rattle.field.proofs.Base.{◌≡◌, refl, sym, ap, ap₂, ◌∙◌, subst, ◌⊎◌, inl, inr, Bool, true, false, ◌&&◌, List, ℕ, ◌≤◌, arith, eqb, length}
use Rattle.field.specs.Field.{order}
use Rattle.field.specs.Question.{Outcome, accepted, refused, refusal, ask, after, is_width, all_below}
use Rattle.field.specs.declared.Question.{Question}
use Rattle.field.specs.declared.Question.TheVariants.{Width, Length, Symbol, Syndrome, SheetWidth, Date, Unused, RecordNumber, SameDay}
use Rattle.code.specs.Word.{places}
use Rattle.code.specs.Call.{all_zero, zero_syndromes}
use Rattle.card.specs.Record.{record_of, copy_written}
use Rattle.card.proofs.Refusals.{refusals}
use Rattle.sheet.specs.Sheet.{sheet_width, sheet_size, is_dated, symbols_of, unused_symbols}
use Rattle.sheet.specs.Call.{read_sheet_asked}
use Rattle.report.specs.Day.{has_record, slot_of, Day, sheet, no_sheet, read_day, copy_day, day_of}
use Rattle.report.specs.Compare.{same_day, chosen_of, compared_of, numbers_asked, compare_of}
use Rattle.report.specs.Demands.{Disagreed, CompareRefuses}

-- ---- the numbers of restoring and reading go up to 16

abbrev Low : Verdict → Type 0
Low v = (q : Question) → v ≡ Err q → refusal q ≤ 16

low-ask : (b : Bool) (p : Question) (v : Verdict) → refusal p ≤ 16 → Low v → Low (ask b p v)
low-ask true p v h l = l
low-ask false p v h l = λ q e. let same : p ≡ q = cc in subst (λ (x : Question). refusal x ≤ 16) same h

low-passed : Low (Ok tt)
low-passed q e = let z : ◌≡◌ {A = ℕ} 0 1 = cc in absurd (omega arith)

low-reading : (m : ℕ) (w : List ℕ) (k : ℕ) → Low (read_sheet_asked m w k)
unfolding read_sheet_asked
low-reading m w k =
    low-ask (is_width m) Width _ (omega arith)
    (low-ask (eqb (length w) (places m)) Length _ (omega arith)
    (low-ask (eqb k sheet_size) Length _ (omega arith)
    (low-ask (all_below (order m) w) Symbol _ (omega arith)
    (low-ask (zero_syndromes m w) Syndrome _ (omega arith)
    (low-ask (eqb m sheet_width) SheetWidth _ (omega arith)
    (low-ask (is_dated (symbols_of w)) Date _ (omega arith)
    (low-ask (all_zero (unused_symbols w)) Unused (Ok tt) (omega arith) low-passed)))))))

abbrev LowDay : Day → Type 0
LowDay d = (n : ℕ) → d ≡ no_sheet n → n ≤ 16

low_read : (v : Verdict) (k : ℕ) (ss : List ℕ) → Low v → LowDay (read_day v k ss)
low_read (Ok tt) k ss h n e = let z : ◌≡◌ {A = ℕ} 0 1 = cc in absurd (omega arith)
low_read (Err q) k ss h n e = let same : refusal q ≡ n = cc in subst (λ (x : ℕ). x ≤ 16) same (h q refl)

low-copy : (o : Outcome) (copy : List ℕ) → ((n : ℕ) → o ≡ refused n → n ≤ 16) → LowDay (copy_day o copy)
low-copy (accepted k) copy h = low_read (read_sheet_asked _ _ _) k _ (low-reading _ _ _)
low-copy (refused i) copy h = λ n e. let same : i ≡ n = cc in h n (ap refused same)

low-day : (r : List ℕ) → LowDay (day_of r)
unfolding day_of
low-day r = low-copy (record_of r) (copy_written r) (refusals r)

-- ---- two days

-- 17 comes from neither, nor from both
compared-not : (x y : Day) → LowDay x → LowDay y → compared_of x y ≡ refused 17 → ⊥
compared-not (no_sheet n) y h k e = let same : n ≡ 17 = cc in omega (arith, h n refl)
compared-not (sheet i ss) (no_sheet n) h k e = let same : n ≡ 17 = cc in omega (arith, k n refl)
compared-not (sheet i ss) (sheet l ts) h k e = go (same_day ss ts) e
  where
    go : (b : Bool) → after (ask b SameDay (Ok tt)) (accepted (chosen_of i l)) ≡ refused 17 → ⊥
    go true f = let z : ◌≡◌ {A = ℕ} 0 1 = cc in omega arith
    go false f = let z : ◌≡◌ {A = ℕ} 20 17 = cc in omega arith

-- 20 comes just where both are sheets, of different days
pub record Apart (x y : Day) : Type 0 where
  pub k : ℕ
  pub l : ℕ
  pub ss : List ℕ
  pub ts : List ℕ
  pub first : x ≡ sheet k ss
  pub second : y ≡ sheet l ts
  pub other : same_day ss ts ≡ false

compared-apart : (x y : Day) → LowDay x → LowDay y → compared_of x y ≡ refused 20 → Apart x y
compared-apart (no_sheet n) y h k e = absurd (let same : n ≡ 20 = cc in omega (arith, h n refl))
compared-apart (sheet i ss) (no_sheet n) h k e = absurd (let same : n ≡ 20 = cc in omega (arith, k n refl))
compared-apart (sheet i ss) (sheet l ts) h k e =
    record { k = i; l = l; ss = ss; ts = ts; first = refl; second = refl; other = go (same_day ss ts) e }
  where
    go : (b : Bool) → after (ask b SameDay (Ok tt)) (accepted (chosen_of i l)) ≡ refused 20 → b ≡ false
    go true f = let z : ◌≡◌ {A = ℕ} 0 1 = cc in absurd (omega arith)
    go false f = refl

-- ---- by number

module _ (c : List ℕ) (i : ℕ) (d : List ℕ) (j : ℕ) where
  abbrev both : Outcome
  both = compared_of (day_of (slot_of c i)) (day_of (slot_of d j))

  by-numbers : (a b : Bool) → has_record c i ≡ a → has_record d j ≡ b → compare_of c i d j ≡ after (ask (a && b) RecordNumber (Ok tt)) both
  unfolding compare_of numbers_asked
  by-numbers a b ea eb = ap₂ (λ (x y : Bool). after (ask (x && y) RecordNumber (Ok tt)) both) ea eb

  not-seventeen : both ≡ refused 17 → ⊥
  not-seventeen = compared-not (day_of (slot_of c i)) (day_of (slot_of d j)) (low-day (slot_of c i)) (low-day (slot_of d j))

  number-to : compare_of c i d j ≡ refused 17 → (has_record c i ≡ false) ⊎ (has_record d j ≡ false)
  number-to e = go (has_record c i) (has_record d j) refl refl
    where
      go : (a b : Bool) → has_record c i ≡ a → has_record d j ≡ b → (has_record c i ≡ false) ⊎ (has_record d j ≡ false)
      go false b ea eb = inl ea
      go true false ea eb = inr eb
      go true true ea eb = absurd (not-seventeen (sym (by-numbers true true ea eb) ∙ e))

  number-from : (has_record c i ≡ false) ⊎ (has_record d j ≡ false) → compare_of c i d j ≡ refused 17
  number-from h = go (has_record c i) (has_record d j) refl refl h
    where
      go : (a b : Bool) → has_record c i ≡ a → has_record d j ≡ b → (has_record c i ≡ false) ⊎ (has_record d j ≡ false) → compare_of c i d j ≡ refused 17
      go false b ea eb h = by-numbers false b ea eb
      go true false ea eb h = by-numbers true false ea eb
      go true true ea eb (inl f) = absurd (let z : ◌≡◌ {A = ℕ} 0 1 = cc in omega arith)
      go true true ea eb (inr f) = absurd (let z : ◌≡◌ {A = ℕ} 0 1 = cc in omega arith)

  module _ (h : has_record c i ≡ true) (k : has_record d j ≡ true) where
    on : compare_of c i d j ≡ both
    on = by-numbers true true h k

    day-first : (n : ℕ) → day_of (slot_of c i) ≡ no_sheet n → compare_of c i d j ≡ refused n
    day-first n e = on ∙ ap (λ (x : Day). compared_of x (day_of (slot_of d j))) e

    day-second : (l : ℕ) (ss : List ℕ) → day_of (slot_of c i) ≡ sheet l ss → (n : ℕ) → day_of (slot_of d j) ≡ no_sheet n → compare_of c i d j ≡ refused n
    day-second l ss e n f = on ∙ ap₂ compared_of e f

  other-to : compare_of c i d j ≡ refused 20 → Disagreed c i d j
  other-to e = go (has_record c i) (has_record d j) refl refl
    where
      go : (a b : Bool) → has_record c i ≡ a → has_record d j ≡ b → Disagreed c i d j
      go false b ea eb =
          let z : refused 20 ≡ refused 17 = sym e ∙ by-numbers false b ea eb in
          let y : ◌≡◌ {A = ℕ} 20 17 = cc in absurd (omega arith)
      go true false ea eb =
          let z : refused 20 ≡ refused 17 = sym e ∙ by-numbers true false ea eb in
          let y : ◌≡◌ {A = ℕ} 20 17 = cc in absurd (omega arith)
      go true true ea eb =
          let A = compared-apart (day_of (slot_of c i)) (day_of (slot_of d j)) (low-day (slot_of c i)) (low-day (slot_of d j)) (sym (on ea eb) ∙ e) in
          record {
            k = A.k;
            l = A.l;
            ss = A.ss;
            ts = A.ts;
            number = ea;
            other-number = eb;
            controller = A.first;
            cupboard = A.second;
            other = A.other;
          }

  other_from : Disagreed c i d j → compare_of c i d j ≡ refused 20
  other_from D =
      on D.number D.other-number ∙ ap₂ compared_of D.controller D.cupboard
      ∙ ap (λ (b : Bool). after (ask b SameDay (Ok tt)) (accepted (chosen_of D.k D.l))) D.other

pub compare-refuses : CompareRefuses
compare-refuses c i d j =
    record {
      number = (number-to c i d j, number-from c i d j);
      controller = day-first c i d j;
      cupboard = day-second c i d j;
      other-day = (other-to c i d j, other_from c i d j);
    }
