-- How many of a conversion's questions are passed: of one slot, of slot after slot, and the verdict. Assumes nothing.
use Rattle.std.proofs.Common.{Ok}
use Rattle.field.proofs.Base.{◌≡◌, refl, sym, ◌∙◌, Bool, true, false, ◌&&◌, List, [], ◌∷◌, ℕ, suc, min, arith}
use Rattle.field.specs.Question.{ask}
use Rattle.field.specs.declared.Question.TheVariants.{Width, ErasureCount, Padding, FourErasures}
use Rattle.card.specs.Record.{has_width, few_in, padded_in}
use Rattle.card.specs.Slots.{slot_in, blank_in, over_first}
use Rattle.card.specs.Conversion.{old_erasure_bytes, blank_or, at_most_four}
use Rattle.card.specs.inner.Leading.{every, record_passes, card_passes}
use Rattle.card.specs.Leading.{leading, slot_passes, verdict_at}
use Rattle.card.proofs.Layouts.{verdict-asked}

-- ---- a slot; b is what `is_blank` says of it

module _ (k : ℕ) (slot : List ℕ) (b : Bool) (eb : b ≡ blank_in k slot) where
  pub slot-blank : b ≡ true → 4 ≡ slot_passes k slot
  unfolding slot_passes
  slot-blank t = let e : blank_in k slot ≡ true = sym eb ∙ t in rw e

  pub slot-record : b ≡ false → (n : ℕ) → n ≡ record_passes k old_erasure_bytes slot → n ≡ slot_passes k slot
  unfolding slot_passes record_passes
  slot-record t n h = let e : blank_in k slot ≡ false = sym eb ∙ t in rw e h

-- ---- slot after slot

-- both pass so many as the one that passes fewer
both-more : (a b : Bool) (xs ys zs : List Bool) → leading zs ≡ min (leading xs) (leading ys)
    → leading ((a && b) ∷ zs) ≡ min (leading (a ∷ xs)) (leading (b ∷ ys))
both-more true true xs ys zs e = omega arith
both-more true false xs ys zs e = omega arith
both-more false b xs ys zs e = omega arith

both-pass : (a b c d a' b' c' d' : Bool)
    → leading ((a && a') ∷ (b && b') ∷ (c && c') ∷ (d && d') ∷ []) ≡ min (leading (a ∷ b ∷ c ∷ d ∷ [])) (leading (a' ∷ b' ∷ c' ∷ d' ∷ []))
both-pass a b c d a' b' c' d' =
    both-more a a' (b ∷ c ∷ d ∷ []) (b' ∷ c' ∷ d' ∷ []) ((b && b') ∷ (c && c') ∷ (d && d') ∷ [])
    (both-more b b' (c ∷ d ∷ []) (c' ∷ d' ∷ []) ((c && c') ∷ (d && d') ∷ [])
    (both-more c c' (d ∷ []) (d' ∷ []) ((d && d') ∷ []) (both-more d d' [] [] [] refl)))

module _ (k : ℕ) (card : List ℕ) where
  pub passed_start : 4 ≡ card_passes k card 0
  unfolding card_passes over_first
  passed_start = refl

  pub one_more_lem : (n : ℕ) → card_passes k card (suc n) ≡ min (card_passes k card n) (slot_passes k (slot_in k card n))
  unfolding card_passes slot_passes over_first
  one_more_lem n =
      let e : (List ℕ → Bool) → Bool = λ p. every k p card n in
      let o : (List ℕ → Bool) → Bool = λ p. blank_or k p (slot_in k card n) in
      both-pass (e has_width) (e (few_in k)) (e (padded_in k)) (e at_most_four) (o has_width) (o (few_in k)) (o (padded_in k)) (o at_most_four)

-- ---- the verdict

pub verdict-card : (k : ℕ) (card : List ℕ) (n : ℕ)
    → verdict_at (card_passes k card n)
    ≡ ask (every k has_width card n) Width
    (ask (every k (few_in k) card n) ErasureCount
    (ask (every k (padded_in k) card n) Padding (ask (every k at_most_four card n) FourErasures (Ok tt))))
unfolding card_passes
verdict-card k card n =
    verdict-asked (every k has_width card n) (every k (few_in k) card n) (every k (padded_in k) card n) (every k at_most_four card n)
