-- Two slots that were sought, side by side: what is said, how the program ends, and what is written. Assumes nothing.
use Rattle.std.proofs.Common.{Ok, Err, Result}
use Rattle.field.proofs.Base.{◌≡◌, refl, sym, ap, ap₂, ◌∙◌, Bool, true, false, cond, not, ◌&&◌, List, ◌⊎◌, inl, inr, ℕ, ◌-◌, ◌<◌, arith, not-true}
use Rattle.field.proofs.Base.{eqb, length}
use Rattle.field.specs.Question.{Outcome, accepted, refused, refusal}
use Rattle.field.specs.declared.Question.{Question}
use Rattle.field.specs.declared.Question.TheVariants.{RecordNumber}
use Rattle.field.proofs.Ask.{and-true-left, and-true-right}
use Rattle.code.specs.Call.{repair}
use Rattle.card.specs.Card.{record_numbered, is_accepted}
use Rattle.card.specs.Slots.{record_count}
use Rattle.card.proofs.Numbering.{number-high}
use Rattle.sheet.specs.Sheet.{quarters}
use Rattle.report.specs.Day.{Day, sheet, no_sheet, day_of}
use Rattle.report.specs.Compare.{choice, symbols_at, compare_total, Compares}
use Rattle.report.specs.declared.compare.Side.{Side}
use Rattle.report.specs.inner.Parts.{day_in}
use Rattle.report.specs.declared.day.Reading.{Reading}
use Rattle.report.specs.declared.compare.Comparison.{Comparison}
use Rattle.report.proofs.Comparing.{compared-number, compared-other}
use Rattle.show.proofs.Comparing.{Dated, controller-dated, cupboard-dated}
use Rattle.show.specs.Comparison.{outcome_text, slots_outcome, comparison_text}
use Rattle.show.specs.inner.Comparison.{AcceptedSlots}
use Rattle.programs.specs.declared.input.Input.{Input}
use Rattle.programs.specs.declared.output.Output.{Output}
use Rattle.programs.specs.declared.seek.Sought.{Sought}
use Rattle.programs.specs.declared.cardcompare.Refusal.{Refusal}
use Rattle.programs.specs.declared.cardcompare.Refusal.TheVariants.{Nobody, Controller, Cupboard}
use Rattle.programs.specs.declared.status.Status.{Status}
use Rattle.programs.specs.declared.status.Status.TheVariants.{Done, AnsweredNo, NotDone}
use Rattle.programs.specs.Seek.{FindsSlot}
use Rattle.programs.specs.Compare.{day_answer, sheet_answer, Said, nothing, said_by, said_of, said}
use Rattle.programs.specs.Compare.{both_read, compared_status, compare_status, ComparesCards}
use Rattle.programs.specs.inner.Seeks.{kept, SeeksSlot}
use Rattle.programs.specs.inner.Compares.{SlotFound, WritesAccepted}
use Rattle.programs.proofs.Choosing.{equal-yes, equal-no}
use Rattle.programs.proofs.Seeking.{is-slot, slot-size, finds-slot}

-- yes is not no
apart : {b : Bool} → b ≡ true → b ≡ false → ⊥
apart p q = let bad : ◌≡◌ {A = Bool} false true = sym q ∙ p in let c : ◌≡◌ {A = ℕ} 0 1 = cc in omega arith

-- ---- what a record answers by itself

module _ (slot : List ℕ) where
  pub answer-none : length slot ≡ 0 → refused (refusal RecordNumber) ≡ sheet_answer slot
  answer-none z = equal-yes (length slot) 0 (refused (refusal RecordNumber)) (day_answer (day_of slot)) z

  answer-some : (length slot ≡ 0 → ⊥) → {o : Outcome} → o ≡ day_answer (day_of slot) → o ≡ sheet_answer slot
  answer-some n {o} e = equal-no (length slot) 0 (refused (refusal RecordNumber)) (day_answer (day_of slot)) o n e

  module _ (n : length slot ≡ 0 → ⊥) (r : Result Reading Question) (T : day_in r ≡ day_of slot) where
    pub answer-read : (x : Reading) → r ≡ Ok x → repair (Ok x.changed) ≡ sheet_answer slot
    answer-read x e = answer-some n (ap (λ (u : Result Reading Question). day_answer (day_in u)) (sym e) ∙ ap day_answer T)

    pub answer-refused : (q : Question) → r ≡ Err q → (k : Result ℕ Question) → k ≡ Err q → repair k ≡ sheet_answer slot
    answer-refused q e k f =
        ap repair f ∙ answer-some n (ap (λ (u : Result Reading Question). day_answer (day_in u)) (sym e) ∙ ap day_answer T)

-- ---- what is said; r and s are what the slots a and b answer, and q is what their comparison was refused for

module _ (a b : List ℕ) (q : Question) (r : Result ℕ Question) (er : repair r ≡ sheet_answer a) where
  abbrev asked : Said
  asked = said_by (sheet_answer a) (sheet_answer b) (refused (refusal q))

  pub names-controller : (p : Question) → r ≡ Err p → said (Controller p) ≡ asked
  names-controller p e = ap (λ (u : Outcome). said_by u (sheet_answer b) (refused (refusal q))) (sym (ap repair e) ∙ er)

  module _ (k : ℕ) (e : r ≡ Ok k) (s : Result ℕ Question) (es : repair s ≡ sheet_answer b) where
    both : (t : Result ℕ Question) → s ≡ t → said_by (accepted k) (repair t) (refused (refusal q)) ≡ asked
    both t f = ap₂ (λ (u v : Outcome). said_by u v (refused (refusal q))) (sym (ap repair e) ∙ er) (sym (ap repair f) ∙ es)

    pub names-cupboard : (p : Question) → s ≡ Err p → said (Cupboard p) ≡ asked
    names-cupboard p f = both (Err p) f

    pub names-sheets : (l : ℕ) → s ≡ Ok l → said (Cupboard q) ≡ asked
    names-sheets l f = both (Ok l) f

-- ---- how it ends

module _ (x : Comparison) (o : Output) where
  abbrev ending : Status
  ending = cond o.ok (compared_status (choice x.choice) x.equal) NotDone

  pub ends-failed : o.ok ≡ false → NotDone ≡ ending
  ends-failed e = ap (λ (b : Bool). cond b (compared_status (choice x.choice) x.equal) NotDone) (sym e)

  module _ (w : o.ok ≡ true) where
    compared : cond (eqb x.equal quarters) Done AnsweredNo ≡ ending
    compared = go x.choice ∙ ap (λ (b : Bool). cond b (compared_status (choice x.choice) x.equal) NotDone) (sym w)
      where
        go : (s : Side) → cond (eqb x.equal quarters) Done AnsweredNo ≡ compared_status (choice s) x.equal
        go Side.Controller = refl
        go Side.Cupboard = refl

    pub ends-equal : x.equal ≡ quarters → Done ≡ ending
    ends-equal h = equal-yes x.equal quarters Done AnsweredNo h ∙ compared

    pub ends-different : (x.equal ≡ quarters → ⊥) → AnsweredNo ≡ ending
    ends-different h = equal-no x.equal quarters Done AnsweredNo AnsweredNo h refl ∙ compared

-- ---- what is written of the slots a and b

chosen : (s : Side) → is_accepted (choice s) ≡ true
chosen Side.Controller = refl
chosen Side.Cupboard = refl

module _ (a b : List ℕ) where
  -- x is their comparison
  module _ (x : Comparison) (C : Compares a 1 b 1 (Ok x)) where
    well : is_accepted (slots_outcome a b) ≡ true
    well = ap is_accepted (sym C.answer) ∙ chosen x.choice

    -- they are there, and can be set side by side
    module _ {n m : ℕ} {i j : Input} (A : SlotFound n i a) (B : SlotFound m j b) where
      some : (u : Outcome) → slots_outcome a b ≡ u → is_accepted u ≡ true → (0 < length a) × (0 < length b)
      some (accepted w) f g =
          let h = number-high (record_count (length a)) 1 (compared-number a 1 b 1 w f) in
          let k = number-high (record_count (length b)) 1 (compared-other a 1 b 1 w f) in
          (omega (arith, h), omega (arith, k))
      some (refused q) f g = absurd (apart g refl)

      pub accepted-slots : FindsSlot n i a × FindsSlot m j b × AcceptedSlots a b x
      accepted-slots =
          let there = some (slots_outcome a b) refl well in (
            A.found there.0,
            B.found there.1,
            record { controller-short = A.short; cupboard-short = B.short; compares = C; well = well },
          )

      -- and nothing is said of them
      pub says-nothing : said Nobody ≡ said_of a b
      says-nothing =
          let there = some (slots_outcome a b) refl well in
          let P = accepted-slots.2 in
          sym (ap₂ (λ (u v : Outcome). said_by u v (slots_outcome a b))
          (sym (answer-some a (λ z. omega (arith, there.0, z)) refl)) (sym (answer-some b (λ z. omega (arith, there.1, z)) refl))
          ∙ sheets (day_of a) (day_of b) (slots_outcome a b) (controller-dated a b x P) (cupboard-dated a b x P) well)
        where
          sheets : (d e : Day) (o : Outcome) → Dated d → Dated e → is_accepted o ≡ true → said_by (day_answer d) (day_answer e) o ≡ nothing
          sheets (sheet k ss) (sheet l ts) (accepted w) D E f = refl
          sheets (sheet k ss) (sheet l ts) (refused n) D E f = absurd (apart f refl)
          sheets (sheet k ss) (no_sheet n) o D E f = absurd E
          sheets (no_sheet n) e o D E f = absurd D

    pub status-compared : (i j : Input) (o : Output) → both_read i j ≡ true
        → cond o.ok (compared_status (choice x.choice) x.equal) NotDone ≡ compare_status a b i j o
    status-compared i j o p =
        ap₂ (λ (u : Outcome) (k : ℕ). cond o.ok (compared_status u k) NotDone) C.answer C.equal
        ∙ sym (ap (λ (c : Bool). cond (c && o.ok) (compared_status (slots_outcome a b) (compare_total a 1 b 1 0)) NotDone) p)

  -- they were refused
  module _ (q : Question) (C : Compares a 1 b 1 (Err q)) where
    pub writes-refused : (o : Output) → o.written ≡ 0 → WritesAccepted a b o
    writes-refused o z =
        record { text = λ w. z ∙ ap (λ (u : Outcome). length (outcome_text u (symbols_at a 1) (symbols_at b 1))) C; silent = λ g. z }

    pub status-refused : (i j : Input) (o : Output) → NotDone ≡ compare_status a b i j o
    status-refused i j o =
        either (both_read i j && o.ok)
        ∙ ap (λ (u : Outcome). cond (both_read i j && o.ok) (compared_status u (compare_total a 1 b 1 0)) NotDone) C
      where
        either : (c : Bool) → NotDone ≡ cond c NotDone NotDone
        either true = refl
        either false = refl

    pub says-refusal : (r : Refusal) → said r ≡ said_by (sheet_answer a) (sheet_answer b) (refused (refusal q)) → said r ≡ said_of a b
    says-refusal r e = e ∙ ap (said_by (sheet_answer a) (sheet_answer b)) C

pub writes-accepted : {a b : List ℕ} {x : Comparison} → AcceptedSlots a b x → (o : Output)
    → (o.ok ≡ true → o.written ≡ length (comparison_text a b)) → WritesAccepted a b o
writes-accepted P o W = record { text = W; silent = λ f. absurd (apart P.well f) }

-- ---- both cards

pub both-fine : (i j : Input) → both_read i j ≡ true → (i.failed ≡ false) × (j.failed ≡ false)
both-fine i j p = (not-true i.failed (and-true-left (not i.failed) (not j.failed) p), not-true j.failed (and-true-right (not i.failed) (not j.failed) p))

pub found-slot : (n : ℕ) {s : Sought} {row : List ℕ} → SeeksSlot (n - 1) s row → (slot : List ℕ) → slot ≡ kept s.len row
    → s.input.failed ≡ false → SlotFound n s.input slot
found-slot n S slot e f = record { short = slot-size n S slot e; found = λ h. finds-slot n S slot e f (λ z. omega (arith, z, h)) }

module _ (n m : ℕ) {s t : Sought} {row other : List ℕ} (S : SeeksSlot (n - 1) s row) (T : SeeksSlot (m - 1) t other) where
  pub compares-unread : both_read s.input t.input ≡ false → (o : Output) → o.written ≡ 0
      → ComparesCards n m (record { controller = s.input; cupboard = t.input; output = o; status = NotDone; refusal = Nobody })
  compares-unread f o z =
      let a = record_numbered S.card n in
      let b = record_numbered T.card m in
      record {
        controller = S.card;
        cupboard = T.card;
        read = S.read;
        also-read = T.read;
        text = λ p w. absurd (apart p f);
        silent = λ h. z;
        refusal = sym (ap (λ (c : Bool). cond c (said_of a b) nothing) f);
        status = sym (ap (λ (c : Bool). cond (c && o.ok) (compared_status (slots_outcome a b) (compare_total a 1 b 1 0)) NotDone) f);
      }

  -- the slots a and b were compared, and o is what was written
  module _ (p : both_read s.input t.input ≡ true) (a b : List ℕ) (ea : a ≡ kept s.len row) (eb : b ≡ kept t.len other) where
    first : a ≡ record_numbered S.card n
    first = is-slot n S a ea

    second : b ≡ record_numbered T.card m
    second = is-slot m T b eb

    pub compares-cards : (o : Output) → WritesAccepted a b o → (st : Status) → st ≡ compare_status a b s.input t.input o
        → (r : Refusal) → said r ≡ said_of a b
        → ComparesCards n m (record { controller = s.input; cupboard = t.input; output = o; status = st; refusal = r })
    compares-cards o W st es r er =
        record {
          controller = S.card;
          cupboard = T.card;
          read = S.read;
          also-read = T.read;
          text = λ q w. W.text w ∙ ap₂ (λ (u v : List ℕ). length (comparison_text u v)) first second;
          silent = silent;
          refusal = rw (sym first, sym second) (er ∙ sym (ap (λ (c : Bool). cond c (said_of a b) nothing) p));
          status = rw (sym first, sym second) es;
        }
      where
        silent : (both_read s.input t.input ≡ false) ⊎ (is_accepted (slots_outcome (record_numbered S.card n) (record_numbered T.card m)) ≡ false)
            → o.written ≡ 0
        silent (inl f) = absurd (apart p f)
        silent (inr f) = W.silent (ap₂ (λ (u v : List ℕ). is_accepted (slots_outcome u v)) first second ∙ f)
