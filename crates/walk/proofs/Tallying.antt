-- Restoring a card up to a longest reach n and counting its slots. Assumes nothing.
use Rattle.std.proofs.Common.{Ok, Err, Result}
use Rattle.std.specs.Result.{result_and, result_unwrap_or}
use Rattle.field.proofs.Base.{◌≡◌, refl, sym, ap, ap₂, ◌∙◌, subst, Bool, true, false, cond, List, [], ◌++◌, ℕ, zero, suc, ◌+◌, ◌-◌, ◌*◌, ◌≤◌, ◌<◌}
use Rattle.field.proofs.Base.{min, dec_lt, arith, length, take, drop, length-drop, length-take, drop_of_length-le}
use Rattle.field.specs.Question.{Verdict, Outcome, accepted, refused}
use Rattle.field.specs.declared.Question.{Question}
use Rattle.code.specs.Call.{done, written}
use Rattle.card.specs.declared.Progress.{Progress}
use Rattle.card.specs.Record.{erasure_bytes, record_size, most_changes, record_of, record_up_to, record_written_up_to}
use Rattle.card.specs.Slots.{record_count, record_at, is_blank, over_first, over_slots, appended}
use Rattle.card.specs.Listing.{counted, further_by, progress_up_to, start}
use Rattle.card.specs.inner.Room.{further, Within}
use Rattle.card.proofs.Blank.{blank-up-to}
use Rattle.card.proofs.Bounds.{few-up-to, progress-within}
use Rattle.card.proofs.Checking.{last-piece}
use Rattle.card.proofs.Folding.{over-one, in_parts}
use Rattle.card.proofs.Reaches.{up-to-size}
use Rattle.walk.specs.declared.Walk.{Walk}
use Rattle.walk.specs.declared.counting.Counted.{Counted}
use Rattle.walk.specs.Restored.{slots_from}
use Rattle.walk.specs.Walk.{step_records, walk_at, step_asked, step_count, state_after, step_written, Steps}
use Rattle.walk.specs.inner.Parts.{restored_from_up_to, CountsSlot, CountsFrom, step_written_up_to, counted_on, StepsCounting, Sound}
use Rattle.walk.specs.Counting.{blank_counted, CountsMake, SlotsCounted, SlotsCountedUpTo}
use Rattle.walk.proofs.Restoring.{from_by, from-none, from-rest, from_on, slots-more, written-two}
use Rattle.walk.proofs.Walking.{going-count, state-by}

-- ---- one slot

module _ (n : ℕ) (s : Progress) (slot : List ℕ) (b : Bool) (e : b ≡ is_blank slot) where
  further-by : (c : Bool) → b ≡ c → further s (cond c s.totals (counted s.totals (record_up_to n slot))) ≡ further_by (record_up_to n) s slot
  further-by c t = ap (λ (d : Bool). further s (cond d s.totals (counted s.totals (record_up_to n slot)))) (sym t ∙ e)

  pub counts-blank : b ≡ true → CountsSlot n s slot (further s s.totals) slot
  counts-blank t = record { content = sym (blank-up-to slot (sym e ∙ t) n).1; progress = further-by true t }

-- slot i of a card, lent as a part of it and put back
module _ (n : ℕ) (card : List ℕ) (i : ℕ) (s r : Progress) (new : List ℕ) where
  abbrev rest : List ℕ
  rest = drop (i * record_size) card

  put_back : (m : ℕ) → i * record_size < length card → take m (drop (i * record_size) card) ≡ take record_size (drop (i * record_size) card)
      → drop m (drop (i * record_size) card) ≡ drop record_size (drop (i * record_size) card)
      → CountsSlot n s (take m (drop (i * record_size) card)) r new
      → CountsFrom n i 1 s card r (take (i * record_size) card ++ (new ++ drop m (drop (i * record_size) card)))
  put_back m h t d C =
      let some : 0 < length (take record_size rest) = simp (length-take, length-drop) (omega arith) in
      let most : length (take record_size rest) ≤ record_size = simp length-take (omega arith) in
      record {
        content = ap₂ (λ (x y : List ℕ). take (i * record_size) card ++ (x ++ y))
            (C.content
            ∙ ap (record_written_up_to n) t
            ∙ sym (over-one (appended (record_written_up_to n)) [] (take record_size rest) some most)) d;
        progress = C.progress
            ∙ ap (further_by (record_up_to n) s) t
            ∙ sym (over-one (further_by (record_up_to n)) s (take record_size rest) some most);
      }

  pub counts-slot : (m : ℕ) → m ≡ min record_size (length card - i * record_size) → i < record_count (length card)
      → CountsSlot n s (take (i * record_size + m - i * record_size) (drop (i * record_size) card)) r new
      → CountsFrom n i 1 s card r
      (take (i * record_size) card ++ (new ++ drop (i * record_size + m - i * record_size) (drop (i * record_size) card)))
  counts-slot m e h C = go (dec_lt (length card - i * record_size) record_size)
    where
      size : ℕ
      size = i * record_size + m - i * record_size

      go : Dec (length card - i * record_size < record_size)
          → CountsFrom n i 1 s card r (take (i * record_size) card ++ (new ++ drop size (drop (i * record_size) card)))
      go (yes l) =
          let last : size ≡ length card - i * record_size = omega arith in
          let long = length-drop (i * record_size) card in
          put_back size (omega arith) (ap (λ (k : ℕ). take k rest) last ∙ last-piece card (i * record_size) l)
          (drop_of_length-le rest {i = size} (omega (arith, long))
          ∙ sym (drop_of_length-le rest {i = record_size} (omega (arith, long)))) C
      go (no n) =
          let whole : size ≡ record_size = omega arith in
          put_back size (omega arith) (ap (λ (k : ℕ). take k rest) whole) (ap (λ (k : ℕ). drop k rest) whole) C

-- ---- slots one behind the other

pub counts-none : (n i : ℕ) (s : Progress) (card : List ℕ) → CountsFrom n i 0 s card s card
unfolding over_first
counts-none n i s card = record { content = sym (from-none (record_written_up_to n) i card); progress = refl }

-- i slots behind the first f, and m more
module _ (n f i : ℕ) (s p : Progress) (old card : List ℕ) (C : CountsFrom n f i s old p card) where
  pub counts-within : (b c : ℕ) → Within b s → b + i * 2 ≤ c → Within c p
  counts-within b c W h =
      let part = slots_from f i old in
      let few : record_count (length part) ≤ i = simp length-take (omega arith) in
      progress-within (record_up_to n) (few-up-to n) b c s p part (record_count (length part)) C.progress W (omega arith)

  pub counts-more : (f + i) * record_size ≤ length old → (m : ℕ) → {r : Progress} {new : List ℕ} → CountsFrom n (f + i) m p card r new
      → CountsFrom n f (i + m) s old r new
  counts-more h m {r} {new} D =
      let whole : length (slots_from f i old) ≡ i * record_size = simp (length-take, length-drop) (omega arith) in
      record {
        content = D.content
            ∙ ap (restored_from_up_to n (f + i) m) C.content
            ∙ from_on (record_written_up_to n) (up-to-size n) f i old h m;
        progress = D.progress
            ∙ ap₂ (λ (u : Progress) (x : List ℕ). progress_up_to n u (take (m * record_size) x)) C.progress
            (ap (drop ((f + i) * record_size)) C.content ∙ from-rest (record_written_up_to n) (up-to-size n) f i old h)
            ∙ sym (in_parts (further_by (record_up_to n)) (slots_from f i old) _ i whole s)
            ∙ ap (progress_up_to n s) (sym (slots-more f i m old));
      }

  -- the loop over `count` of them
  pub counts-on : (count : ℕ) → f + count ≤ record_count (length old) → i < count → {r : Progress} {new : List ℕ}
      → CountsFrom n (f + i) 1 p card r new → CountsFrom n f (i + 1) s old r new
  counts-on count h l D = counts-more (omega arith) 1 D

-- ---- one step

-- by the verdict of its questions
module _ (n : ℕ) (w : Walk) (s : Progress) (card : List ℕ) (v : Verdict) (e : v ≡ step_asked w (length card)) where
  card-by : written v card (restored_from_up_to n (w.next - 1) (step_count w (length card)) card) ≡ step_written_up_to n w card
  unfolding step_written_up_to
  card-by = ap (λ (u : Verdict). written u card (restored_from_up_to n (w.next - 1) (step_count w (length card)) card)) e

module _ (n : ℕ) (w : Walk) (s : Progress) (card : List ℕ) (v : Verdict) (e : v ≡ step_asked w (length card)) where
  answer-by : result_and v (Ok (counted_on n w s card)) ≡ result_and (step_asked w (length card)) (Ok (counted_on n w s card))
  answer-by = ap (λ (u : Verdict). result_and u (Ok (counted_on n w s card))) e

  pub counting-refused : (q : Question) → v ≡ Err q → (r : Result Counted Question) → r ≡ Err q → StepsCounting n w s card r card
  counting-refused q p r g =
      record {
        answer = g ∙ ap (λ (u : Verdict). result_and u (Ok (counted_on n w s card))) (sym p) ∙ answer-by;
        content = card-by n w s card (Err q) (sym p ∙ e);
      }

  pub counting-passed : v ≡ (Ok tt) → (r : ℕ) → r ≡ record_count (length card) → (count : ℕ) → count ≡ min step_records (r - (w.next - 1))
      → {p : Progress} {new : List ℕ} → CountsFrom n (w.next - 1) count s card p new
      → StepsCounting n w s card (Ok (record { walk = walk_at w.length (w.next + count); progress = p })) new
  counting-passed t r er count ec {p} {new} C =
      let c = going-count w (length card) v e t r er count ec in
      record {
        answer = ap Ok
            (ap₂ (λ (k : ℕ) (u : Progress). record { walk = walk_at w.length (w.next + k); progress = u }) c
            (C.progress ∙ ap (λ (k : ℕ). progress_up_to n s (slots_from (w.next - 1) k card)) c))
            ∙ ap (λ (u : Verdict). result_and u (Ok (counted_on n w s card))) (sym t)
            ∙ answer-by;
        content = C.content ∙ ap (λ (k : ℕ). restored_from_up_to n (w.next - 1) k card) c ∙ card-by n w s card (Ok tt) (sym t ∙ e);
      }

-- up to two it is a step
module _ (w : Walk) (s : Progress) (card : List ℕ) where
  abbrev walk_of : Result Counted Question → Result Walk Question
  walk_of (Ok x) = Ok x.walk
  walk_of (Err q) = Err q

  counts-step : (r : Result Counted Question) (new : List ℕ) → StepsCounting most_changes w s card r new → Steps w card (walk_of r) new
  unfolding step_written_up_to step_written
  counts-step r new S =
      record {
        answer = ap (λ (x : Result Counted Question). done (result_and (walk_of x) (Ok tt))) S.answer ∙ told asked;
        state = ap (λ (x : Result Counted Question). result_unwrap_or (walk_of x) w) S.answer ∙ gone asked ∙ state-by w card asked refl;
        content = S.content
            ∙ ap (λ (f : List ℕ → List ℕ). written asked card (from_by f (w.next - 1) (step_count w (length card)) card))
            written-two;
      }
    where
      asked : Verdict
      asked = step_asked w (length card)

      on : Counted
      on = counted_on most_changes w s card

      told : (v : Verdict) → done (result_and (walk_of (result_and v (Ok on))) (Ok tt)) ≡ done v
      told (Ok tt) = refl
      told (Err q) = refl

      gone : (v : Verdict) → result_unwrap_or (walk_of (result_and v (Ok on))) w ≡ state_after v w on.walk
      gone (Ok tt) = refl
      gone (Err q) = refl

  pub steps-two : (r : Result Counted Question) (new : List ℕ) → StepsCounting most_changes w s card r new
      → (x : Counted) → r ≡ Ok x → Steps w card (Ok x.walk) new
  steps-two r new S x e = subst (λ (y : Result Walk Question). Steps w card y new) (ap walk_of e) (counts-step r new S)

  pub steps-two-refused : (r : Result Counted Question) (new : List ℕ) → StepsCounting most_changes w s card r new
      → (q : Question) → r ≡ Err q → (v : Result Walk Question) → v ≡ Err q → Steps w card v new
  steps-two-refused r new S q e v f =
      subst (λ (y : Result Walk Question). Steps w card y new) (ap walk_of e ∙ sym f) (counts-step r new S)

-- ---- what the counts say, where f tells what restoring a record answers, at whatever reach

module _ (f : List ℕ → Outcome) where
  -- every slot is accepted, refused or blank
  totals-make : (s : Progress) (card : List ℕ) (k : ℕ)
      → ((over_first erasure_bytes (further_by f) s card k).next ≡ s.next + k)
      × ((over_first erasure_bytes (further_by f) s card k).totals.accepted + (over_first erasure_bytes (further_by f) s card k).totals.refused
      + over_first erasure_bytes blank_counted 0 card k ≡ s.totals.accepted + s.totals.refused + k)
  unfolding over_first
  totals-make s card zero = (omega arith, omega arith)
  totals-make s card (suc k) =
      go (is_blank (record_at card k)) (f (record_at card k)) (over_first erasure_bytes (further_by f) s card k)
      (over_first erasure_bytes blank_counted 0 card k) (totals-make s card k)
    where
      go : (b : Bool) (o : Outcome) (u : Progress) (n : ℕ)
          → (u.next ≡ s.next + k) × (u.totals.accepted + u.totals.refused + n ≡ s.totals.accepted + s.totals.refused + k)
          → (u.next + 1 ≡ s.next + suc k)
          × ((cond b u.totals (counted u.totals o)).accepted + (cond b u.totals (counted u.totals o)).refused + (n + cond b 1 0)
          ≡ s.totals.accepted + s.totals.refused + suc k)
      go true o u n h = (omega (arith, h.0), omega (arith, h.1))
      go false (accepted m) u n h = (omega (arith, h.0), omega (arith, h.1))
      go false (refused m) u n h = (omega (arith, h.0), omega (arith, h.1))

  counts-make : (card : List ℕ) → CountsMake card (over_slots (further_by f) start card)
  counts-make card =
      let M = totals-make start card (record_count (length card)) in
      record { slots = omega (arith, M.0); make = omega (arith, M.1); blank = omega (arith, M.0, M.1) }

  -- no more records are counted than slots
  pub counts-sound : (card : List ℕ) (s : Progress) → s ≡ over_slots (further_by f) start card → Sound s
  counts-sound card s e = rw e (omega (arith, (counts-make card).slots, (counts-make card).make))

pub slots-counted : SlotsCounted
slots-counted = counts-make record_of

pub slots-counted-up-to : SlotsCountedUpTo
slots-counted-up-to n = counts-make (record_up_to n)
