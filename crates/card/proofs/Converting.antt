-- From the answers of the questions to the contracts of the two calls. Assumes nothing.
use Rattle.std.proofs.Common.{Ok, Err}
use Rattle.field.specs.Question.{Verdict}
use Rattle.field.proofs.Base.{◌≡◌, refl, sym, ap, ◌∙◌, Bool, true, false, ◌&&◌, ◌||◌, List, ℕ, zero, suc, ◌*◌, ◌/◌, ◌%◌, ◌<◌, ℕ_discrete, arith}
use Rattle.field.proofs.Base.{eq-eqb, ne_eqb, eqb-true, eqb, length}
use native.Mathlib.Nat.{div-add-mod'}
use Rattle.field.specs.Question.{ask}
use Rattle.field.specs.declared.Question.TheVariants.{Width, Length, ErasureCount, Padding}
use Rattle.field.proofs.Ask.{ask-yes, and-true-left, and-true-right}
use Rattle.card.specs.Record.{size_of, has_width, few_in, padded_in, erasure_bytes}
use Rattle.card.specs.Slots.{slot_in, blank_in, slot_count, over_first}
use Rattle.card.specs.Conversion.{old_erasure_bytes, lengths_fit, blank_or, every_record, at_most_four}
use Rattle.card.specs.inner.Leading.{every, card_passes}
use Rattle.card.specs.Leading.{verdict_at}
use Rattle.card.specs.Conversion.{card_asked, four_asked, to_new_asked, to_old_asked}
use Rattle.card.proofs.Layouts.{asked-late, few-fit}
use Rattle.card.proofs.Leading.{verdict-card}

-- ---- the lengths: a card of n bytes, an output of m bytes; s is the size of a slot

module _ (k n s : ℕ) (e : s ≡ size_of k) where
  rest-is : (x : ℕ) → n % s ≡ x → n % size_of k ≡ x
  rest-is x h = ap (λ (y : ℕ). n % y) (sym e) ∙ h

  pub card-whole : n % s ≡ 0 → n ≡ n / s * size_of k
  card-whole h =
      let w : n / s * s ≡ n / s * size_of k = ap (λ (y : ℕ). n / s * y) e in
      omega (arith, div-add-mod' n s, w)

  module _ (j m : ℕ) where
    pub lengths-whole : (n % s ≡ 0 → ⊥) → lengths_fit k j n m ≡ false
    lengths-whole h =
        ap (λ (x : Bool). x && eqb m (slot_count k n * size_of j)) (ne_eqb (n % size_of k) 0 (λ z. h (ap (λ (y : ℕ). n % y) e ∙ z)))

    -- b is what `are_slots` says
    pub lengths-are : (b : Bool) → n % s ≡ 0 → b ≡ eqb m (n / s * size_of j) → lengths_fit k j n m ≡ b
    lengths-are b h eb =
        ap (λ (x : Bool). x && eqb m (slot_count k n * size_of j)) (eq-eqb (n % size_of k) 0 (rest-is 0 h))
        ∙ sym (eb ∙ ap (λ (y : ℕ). eqb m (n / y * size_of j)) e)

-- ---- the questions

module _ (k j : ℕ) (card : List ℕ) (m : ℕ) where
  all_asked : Verdict
  all_asked =
      ask (every_record k has_width card) Width
      (ask (every_record k (few_in k) card) ErasureCount (ask (every_record k (padded_in k) card) Padding (four_asked k card)))

  pub asked-refused : lengths_fit k j (length card) m ≡ false → Err Length ≡ card_asked k j card m (four_asked k card)
  unfolding all_asked
  asked-refused h = ap (λ (x : Bool). ask x Length all_asked) (sym h)

  -- n is what `see_part` says, v what `verdict_of` makes of it
  pub asked-verdict : lengths_fit k j (length card) m ≡ true → (s : ℕ) → s ≡ size_of k → (n : ℕ) → n ≡ card_passes k card (length card / s)
      → (v : Verdict) → v ≡ verdict_at n → v ≡ card_asked k j card m (four_asked k card)
  unfolding all_asked
  asked-verdict h s e n en v ev =
      ev
      ∙ ap verdict_at (en ∙ ap (λ (y : ℕ). card_passes k card (length card / y)) e)
      ∙ verdict-card k card (slot_count k (length card))
      ∙ ap (λ (x : Bool). ask x Length all_asked) (sym h)

-- what was passed tells of the lengths
module _ (k j : ℕ) (card : List ℕ) (m : ℕ) (next : Verdict) (p : card_asked k j card m next ≡ (Ok tt)) where
  fitting : lengths_fit k j (length card) m ≡ true
  fitting = ask-yes (lengths_fit k j (length card) m) Length _ p

  pub passed-card : length card ≡ slot_count k (length card) * size_of k
  passed-card =
      card-whole k (length card) (size_of k) refl
      (eqb-true (length card % size_of k) 0
      (and-true-left (eqb (length card % size_of k) 0) (eqb m (slot_count k (length card) * size_of j)) fitting))

  pub passed-out : m ≡ slot_count k (length card) * size_of j
  passed-out =
      eqb-true m (slot_count k (length card) * size_of j)
      (and-true-right (eqb (length card % size_of k) 0) (eqb m (slot_count k (length card) * size_of j)) fitting)

-- ---- both calls; v is the verdict of the questions

module _ (k j : ℕ) (card old : List ℕ) (v : Verdict) (e : v ≡ card_asked k j card (length old) (four_asked k card)) where
  -- s is the size of a slot
  module _ (p : v ≡ (Ok tt)) (s : ℕ) (es : s ≡ size_of k) where
    asked : card_asked k j card (length old) (four_asked k card) ≡ (Ok tt)
    asked = sym e ∙ p

-- ---- a question, put to slot after slot

or-follows : (b x y : Bool) → (x ≡ true → y ≡ true) → (b || x) ≡ true → (b || y) ≡ true
or-follows true x y f h = refl
or-follows false x y f h = f h

module _ (k : ℕ) (p : List ℕ → Bool) (card : List ℕ) where
  pub every-at : (n : ℕ) → every k p card n ≡ true → (i : ℕ) → i < n → blank_or k p (slot_in k card i) ≡ true
  unfolding over_first
  every-at zero h i l = absurd (omega arith)
  every-at (suc n) h i l = go (ℕ_discrete i n) (every-at n (and-true-left (every k p card n) (blank_or k p (slot_in k card n)) h) i)
    where
      go : Dec (i ≡ n) → (i < n → blank_or k p (slot_in k card i) ≡ true) → blank_or k p (slot_in k card i) ≡ true
      go (yes e) f =
          ap (λ (x : ℕ). blank_or k p (slot_in k card x)) e ∙ and-true-right (every k p card n) (blank_or k p (slot_in k card n)) h
      go (no e) f = f (omega arith)

  pub every-all : (n : ℕ) → ((i : ℕ) → i < n → blank_or k p (slot_in k card i) ≡ true) → every k p card n ≡ true
  unfolding over_first
  every-all zero f = refl
  every-all (suc n) f =
      ap (λ (x : Bool). x && blank_or k p (slot_in k card n)) (every-all n (λ i h. f i (omega arith))) ∙ f n (omega arith)

-- ---- old to new: question 15 is never answered no

few-old : (card : List ℕ) → every_record old_erasure_bytes (few_in old_erasure_bytes) card ≡ true
    → every_record old_erasure_bytes at_most_four card ≡ true
few-old card h =
    let k = old_erasure_bytes in
    every-all k at_most_four card (slot_count k (length card))
    (λ i l.
    let r = slot_in k card i in
    or-follows (blank_in k r) (few_in k r) (at_most_four r) (few-fit k r) (every-at k (few_in k) card (slot_count k (length card)) h i l))

pub new-asked : (card : List ℕ) (m : ℕ)
    → card_asked old_erasure_bytes erasure_bytes card m (four_asked old_erasure_bytes card) ≡ to_new_asked card m
unfolding to_new_asked
new-asked card m =
    let k = old_erasure_bytes in
    ap (ask (lengths_fit k erasure_bytes (length card) m) Length)
    (asked-late (every_record k has_width card) (every_record k (few_in k) card) (every_record k (padded_in k) card)
    (every_record k at_most_four card)
    (few-old card))

pub old-asked : (card : List ℕ) (m : ℕ)
    → card_asked erasure_bytes old_erasure_bytes card m (four_asked erasure_bytes card) ≡ to_old_asked card m
unfolding to_old_asked
old-asked card m = refl
