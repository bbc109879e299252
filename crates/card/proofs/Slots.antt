-- Slots of a card, one after the other, and of two parts. k is the number of erasure bytes, n that of slots. Assumes nothing.
use Rattle.field.proofs.Base.{◌≡◌, sym, ap, ◌∙◌, subst, false, List, ◌++◌, ℕ, ◌+◌, ◌-◌, ◌*◌, ◌/◌, ◌≤◌, ◌<◌, arith, ne_eqb, eqb, length, take, drop}
use Rattle.field.proofs.Base.{length-take, length-drop}
use native.Mathlib.Nat.{suc-mul, add-mul, mul-le-mul_right, mul-div_cancel}
use lib.Seq.{take-append-le, drop-append-le, drop-append-add}
use Rattle.card.specs.Record.{size_of}
use Rattle.card.specs.Slots.{slot_in}

-- ---- where slots stand; s is the size of a slot

-- slot i ends before the end of slots n
pub slot-before : (s i n : ℕ) → i < n → i * s + s ≤ n * s
slot-before s i n h = subst (λ (x : ℕ). x ≤ n * s) (suc-mul i s) (mul-le-mul_right s h)

-- m bytes make n slots exactly where the quotient is n and nothing is left
module _ (m s n : ℕ) where
  pub slots-other : 0 < s → (m / s ≡ n → ⊥) → false ≡ eqb m (n * s)
  slots-other p q = sym (ne_eqb m (n * s) (λ e. q (ap (λ (x : ℕ). x / s) e ∙ mul-div_cancel n p)))

-- ---- a card with n slots and perhaps more

pub slot-cut : (k : ℕ) (card : List ℕ) (i s : ℕ) → s ≡ size_of k → take (i * s + s - i * s) (drop (i * s) card) ≡ slot_in k card i
slot-cut k card i s e = ap (λ (x : ℕ). take x (drop (i * s) card)) back ∙ ap (λ (x : ℕ). take x (drop (i * x) card)) e
  where
    back : i * s + s - i * s ≡ s
    back = omega arith

module _ (k : ℕ) (card : List ℕ) (n : ℕ) (fits : n * size_of k ≤ length card) (i : ℕ) (h : i < n) where
  pub slot_whole : length (slot_in k card i) ≡ size_of k
  slot_whole = simp (length-take, length-drop) (omega (arith, fits, slot-before (size_of k) i n h))

-- of n slots
module _ (k : ℕ) (card : List ℕ) (n : ℕ) (size : length card ≡ n * size_of k) (i : ℕ) (h : i < n) where
  pub slot-size : length (slot_in k card i) ≡ size_of k
  slot-size = slot_whole k card n (omega arith) i h

  module _ (s : ℕ) (e : s ≡ size_of k) where
    pub slot-part : take (i * s + s - i * s) (drop (i * s) card) ≡ slot_in k card i
    slot-part = slot-cut k card i s e

-- ---- two parts of a card, the first with j whole slots

module _ (k : ℕ) (a b : List ℕ) where
  pub slot-front : (i j : ℕ) → i < j → j * size_of k ≤ length a → slot_in k (a ++ b) i ≡ slot_in k a i
  slot-front i j l h =
      let inside = slot-before (size_of k) i j l in
      ap (take (size_of k)) (drop-append-le (i * size_of k) a b (omega (arith, inside)))
      ∙ take-append-le (size_of k) (drop (i * size_of k) a) b (simp length-drop (omega (arith, inside)))

  pub slot-behind : (i j : ℕ) → length a ≡ j * size_of k → slot_in k (a ++ b) (j + i) ≡ slot_in k b i
  slot-behind i j h =
      let place : (j + i) * size_of k ≡ length a + i * size_of k = add-mul j i (size_of k) ∙ ap (λ (x : ℕ). x + i * size_of k) (sym h) in
      ap (λ (n : ℕ). take (size_of k) (drop n (a ++ b))) place ∙ ap (take (size_of k)) (drop-append-add a b (i * size_of k))
