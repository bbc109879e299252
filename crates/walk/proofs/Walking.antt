-- The steps of a walk: the questions of one, its answer, and steps one after the other. Assumes nothing.
use Rattle.std.proofs.Common.{Ok, Err}
use Rattle.field.proofs.Base.{eq-eqb, ne_eqb, ◌≡◌, refl, sym, ap, ap₂, ◌∙◌, Bool, true, false, List, ℕ, zero, suc, ◌+◌, ◌-◌, ◌*◌, ◌≤◌, ◌<◌}
use Rattle.field.proofs.Base.{min, dec_lt, arith, eqb, length}
use native.Mathlib.Nat.{zero-add}
use Rattle.field.specs.Question.{Verdict, accepted, refused}
use Rattle.field.specs.declared.Question.TheVariants.{Length, RecordNumber}
use Rattle.field.proofs.Ask.{ask-yes, ask-next}
use Rattle.code.specs.Call.{done, written}
use Rattle.card.specs.Record.{record_size, record_written}
use Rattle.card.specs.Slots.{record_count}
use Rattle.card.specs.Card.{is_number}
use Rattle.walk.specs.declared.Walk.{Walk}
use Rattle.walk.specs.Restored.{restored_from}
use Rattle.walk.specs.Walk.{step_records, walk_at, step_asked, step_count, state_after, step_state, step_written}
use Rattle.walk.specs.Walk.{Moment, stepped, after_steps, steps_of, state_over}
use Rattle.walk.specs.Demands.{WalkDone, WalkThrough, AfterEnd, OtherLength, RefusedStep, Unmoved}
use Rattle.card.proofs.Again.{written-size}
use Rattle.card.proofs.Numbering.{number-yes, number-low, number-high}
use Rattle.walk.proofs.Restoring.{from-size, from-none, from_all, from_on}

-- ---- the questions

module _ (w : Walk) (n : ℕ) where
  pub asked-length : (n ≡ w.length → ⊥) → Err Length ≡ step_asked w n
  unfolding step_asked
  asked-length h = simp (ne_eqb n w.length h)

  -- b is whether the next record is one of r + 1
  module _ (e : n ≡ w.length) (r : ℕ) (er : r ≡ record_count n) (b : Bool) (eb : b ≡ is_number (r + 1) w.next) where
    same : b ≡ is_number (record_count n + 1) w.next
    same = eb ∙ ap (λ (k : ℕ). is_number (k + 1) w.next) er

    pub asked-passed : b ≡ true → (Ok tt) ≡ step_asked w n
    unfolding step_asked
    asked-passed t = simp (eq-eqb n w.length e, sym same ∙ t)

    pub asked-number : b ≡ false → Err RecordNumber ≡ step_asked w n
    unfolding step_asked
    asked-number t = simp (eq-eqb n w.length e, sym same ∙ t)

pub step-passed : (w : Walk) (n : ℕ) → n ≡ w.length → 1 ≤ w.next → w.next ≤ record_count n + 1 → (Ok tt) ≡ step_asked w n
step-passed w n e l h = asked-passed w n e (record_count n) refl true (sym (number-yes (record_count n + 1) w.next l h)) refl

-- what they tell where they were answered yes
module _ (w : Walk) (n : ℕ) (v : Verdict) (e : v ≡ step_asked w n) (p : v ≡ (Ok tt)) where
  in-range : is_number (record_count n + 1) w.next ≡ true
  unfolding step_asked
  in-range =
      ask-yes (is_number (record_count n + 1) w.next) RecordNumber (Ok tt) (ask-next (eqb n w.length) Length _ (sym e ∙ p))

  pub going-low : 1 ≤ w.next
  going-low = number-low (record_count n + 1) w.next in-range

  -- r is the number of records, `count` those of the step
  module _ (r : ℕ) (er : r ≡ record_count n) where
    pub going-high : w.next - 1 ≤ r
    going-high = omega (arith, number-high (record_count n + 1) w.next in-range)

    module _ (count : ℕ) (ec : count ≡ min step_records (r - (w.next - 1))) where
      pub going-within : w.next - 1 + count ≤ record_count n
      going-within = omega (arith, going-high)

      pub going-count : count ≡ step_count w n
      going-count = omega (arith, going-low)

-- ---- one step, by the verdict of its questions

module _ (w : Walk) (card : List ℕ) (v : Verdict) (p : v ≡ step_asked w (length card)) where
  pub state-by : state_after v w (walk_at w.length (w.next + step_count w (length card))) ≡ step_state w card
  unfolding step_state
  state-by = ap (λ (u : Verdict). state_after u w (walk_at w.length (w.next + step_count w (length card)))) p

  pub card-by : written v card (restored_from (w.next - 1) (step_count w (length card)) card) ≡ step_written w card
  unfolding step_written
  card-by = ap (λ (u : Verdict). written u card (restored_from (w.next - 1) (step_count w (length card)) card)) p

pub other_length : OtherLength
other_length w card n = sym (ap done (asked-length w (length card) n))

pub refused-step : RefusedStep
refused-step w card n e = go (step_asked w (length card)) refl
  where
    go : (v : Verdict) → v ≡ step_asked w (length card) → Unmoved w card
    go (Ok tt) p =
        let never : accepted 0 ≡ refused n = ap done p ∙ e in
        let z : ◌≡◌ {A = ℕ} 0 1 = cc in
        absurd (omega arith)
    go (Err q) p = record { state = sym (state-by w card (Err q) p); content = sym (card-by w card (Err q) p) }

pub after-end : AfterEnd
after-end w card e n =
    let p = step-passed w (length card) e (omega arith) (omega arith) in
    let none : step_count w (length card) ≡ 0 = omega arith in
    let same : w.next ≡ w.next + step_count w (length card) = omega arith in (
      sym (ap done p),
      record {
        state = sym (ap (λ (x : ℕ). walk_at w.length x) same ∙ state-by w card (Ok tt) p);
        content = sym (card-by w card (Ok tt) p)
            ∙ ap (λ (k : ℕ). restored_from (w.next - 1) k card) none
            ∙ from-none record_written (w.next - 1) card;
      },
    )

-- ---- the state after k steps over cards of n bytes

-- so many records are treated in k steps
abbrev reached_in : ℕ → ℕ → ℕ
reached_in k n = min (k * step_records) (record_count n)

abbrev state_in : ℕ → ℕ → Walk
state_in k n = walk_at n (reached_in k n + 1)

module _ (k n : ℕ) (card : List ℕ) (size : length card ≡ n) where
  asked_in_lem : (Ok tt) ≡ step_asked (state_in k n) (length card)
  asked_in_lem = step-passed (state_in k n) (length card) size (omega arith) (omega (arith, size))

  state-in : step_state (state_in k n) card ≡ state_in (suc k) n
  state-in = sym (state-by (state_in k n) card (Ok tt) asked_in_lem) ∙ ap (walk_at n) more
    where
      more : reached_in k n + 1 + step_count (state_in k n) (length card) ≡ reached_in (suc k) n + 1
      more = omega (arith, size)

module _ (n : ℕ) (cards : ℕ → List ℕ) (sizes : (j : ℕ) → length (cards j) ≡ n) where
  state-over : (k : ℕ) → state_over n cards k ≡ state_in k n
  unfolding state_over
  state-over zero = let none : 1 ≡ reached_in 0 n + 1 = omega arith in ap (walk_at n) none
  state-over (suc k) = ap (λ (w : Walk). step_state w (cards k)) (state-over k) ∙ state-in k n (cards k) (sizes k)

pub walk_through : WalkThrough
walk_through n cards sizes =
    let steps = steps_of (record_count n) in
    let all : reached_in steps n + 1 ≡ record_count n + 1 = omega arith in
    record {
      passed = λ j. rw (state-over n cards sizes j) (sym (ap done (asked_in_lem j n (cards j) (sizes j))));
      not-before = λ j h. rw (state-over n cards sizes j) (omega arith);
      next = rw (state-over n cards sizes steps) all;
    }

-- ---- the moment after k steps

abbrev pub reached : ℕ → List ℕ → ℕ
reached k card = reached_in k (length card)

abbrev state_at : ℕ → List ℕ → Walk
state_at k card = state_in k (length card)

abbrev card_at : ℕ → List ℕ → List ℕ
card_at k card = restored_from 0 (reached k card) card

step-on : (i m : ℕ) (card : List ℕ) → i * record_size ≤ length card → restored_from i m (restored_from 0 i card) ≡ restored_from 0 (i + m) card
step-on i m card h =
    ap (λ (n : ℕ). restored_from n m (restored_from 0 i card)) (sym (zero-add i)) ∙ from_on record_written written-size 0 i card (rw zero-add h) m

module _ (k : ℕ) (card : List ℕ) where
  size : length (card_at k card) ≡ length card
  size = from-size record_written written-size 0 (reached k card) card

  asked-at : (Ok tt) ≡ step_asked (state_at k card) (length (card_at k card))
  asked-at = asked_in_lem k (length card) (card_at k card) size

  state-on : step_state (state_at k card) (card_at k card) ≡ state_at (suc k) card
  state-on = state-in k (length card) (card_at k card) size

  card-on : step_written (state_at k card) (card_at k card) ≡ card_at (suc k) card
  card-on =
      sym (card-by (state_at k card) (card_at k card) (Ok tt) asked-at)
      ∙ ap (λ (i : ℕ). restored_from i count (card_at k card)) back
      ∙ go (dec_lt (reached k card) (record_count (length card)))
    where
      count : ℕ
      count = step_count (state_at k card) (length (card_at k card))

      back : reached k card + 1 - 1 ≡ reached k card
      back = omega arith

      go : Dec (reached k card < record_count (length card)) → restored_from (reached k card) count (card_at k card) ≡ card_at (suc k) card
      go (yes h) =
          let more : reached k card + count ≡ reached (suc k) card = omega (arith, size) in
          step-on (reached k card) count card (omega arith) ∙ ap (λ (i : ℕ). restored_from 0 i card) more
      go (no n) =
          let none : count ≡ 0 = omega (arith, size) in
          let same : reached k card ≡ reached (suc k) card = omega arith in
          ap (λ (m : ℕ). restored_from (reached k card) m (card_at k card)) none
          ∙ from-none record_written (reached k card) (card_at k card)
          ∙ ap (λ (i : ℕ). restored_from 0 i card) same

abbrev moment : List ℕ → Walk → Moment
moment c w = record { state = w; card = c }

pub at-moment : (k : ℕ) (card : List ℕ) → after_steps k card ≡ record { state = state_at k card; card = card_at k card }
unfolding after_steps
at-moment zero card =
    let none : 0 ≡ reached 0 card = omega arith in
    ap₂ (λ (c : List ℕ) (i : ℕ). moment c (walk_at (length card) (i + 1)))
    (sym (from-none record_written 0 card) ∙ ap (λ (i : ℕ). restored_from 0 i card) none) none
at-moment (suc k) card = ap stepped (at-moment k card) ∙ ap₂ moment (card-on k card) (state-on k card)

pub walk-done : WalkDone
walk-done card =
    let steps = steps_of (record_count (length card)) in
    let all : reached steps card ≡ record_count (length card) = omega arith in
    record {
      passed = λ j h. rw (at-moment j card) (sym (ap done (asked-at j card)));
      not-before = λ j h. rw (at-moment j card) (omega arith);
      next = rw (at-moment steps card) (ap (λ (i : ℕ). i + 1) all);
      content = rw (at-moment steps card) (from_all record_written (reached steps card) card (omega (arith, all)));
    }
