-- A slot written in the other edition, and the slots of the output. k and j are the numbers of erasure bytes, n that of slots. Assumes nothing.
use Rattle.field.proofs.Base.{◌≡◌, sym, ap, ap₂, ◌∙◌, List, [], ◌∷◌, ◌++◌, append_assoc, append-nil, ℕ, ◌+◌, ◌-◌, ◌*◌, ◌≤◌, ◌<◌, min, ℕ_discrete}
use Rattle.field.proofs.Base.{zero-mul, add-one, arith, length, take, drop, replicate, length-append, length-take, length-drop, length-replicate}
use Rattle.field.proofs.Base.{take_all, take_at, drop_at, length-take-le, drop-drop}
use native.Mathlib.Nat.{suc-mul}
use Rattle.card.specs.Record.{header_of, size_of, erasure_bytes}
use Rattle.card.specs.Slots.{slot_in, over_first}
use Rattle.card.specs.Conversion.{old_erasure_bytes, converted}
use Rattle.card.specs.inner.Leading.{converted_slots}
use Rattle.card.proofs.Slots.{slot-size}
use Rattle.card.proofs.Folding.{each_long, each_at}

-- ---- a slot in the other edition

-- one edition has four erasure bytes, and the other at most one more
module _ (k j : ℕ) (old : min k j ≡ old_erasure_bytes) (most : k ≤ erasure_bytes) (most' : j ≤ erasure_bytes) where
  added : (r : List ℕ) → length r ≡ 6 → take (header_of j) (r ++ 255 ∷ []) ≡ r ++ replicate (j - k) 255
  added r l = go (ℕ_discrete j old_erasure_bytes)
    where
      go : Dec (j ≡ old_erasure_bytes) → take (header_of j) (r ++ 255 ∷ []) ≡ r ++ replicate (j - k) 255
      go (yes e) =
          let none : j - k ≡ 0 = omega arith in
          let six : header_of j ≡ 6 = omega arith in
          ap (λ (x : ℕ). take x (r ++ 255 ∷ [])) six
          ∙ take_at r (255 ∷ []) 6 l
          ∙ sym (append-nil r)
          ∙ ap (λ (x : ℕ). r ++ replicate x 255) (sym none)
      go (no e) =
          let one : j - k ≡ 1 = omega arith in
          take_all (header_of j) (r ++ 255 ∷ []) (omega (arith, length-append r (255 ∷ []))) ∙ ap (λ (x : ℕ). r ++ replicate x 255) (sym one)

  -- header is what `new_header` makes of the slot
  pub header-part : (r header : List ℕ) → length r ≡ size_of k → header ≡ take (header_of old_erasure_bytes) r ++ 255 ∷ []
      → take (header_of j) header ++ drop (header_of k) r ≡ converted k j r
  unfolding converted
  header-part r header l e =
      ap (λ (x : List ℕ). x ++ drop (header_of k) r)
      (ap (take (header_of j)) e
      ∙ added (take (header_of old_erasure_bytes) r) (length-take-le (header_of old_erasure_bytes) r (omega arith))
      ∙ ap (λ (x : ℕ). take (header_of x) r ++ replicate (j - k) 255) (sym old))
      ∙ append_assoc (take (header_of (min k j)) r) (replicate (j - k) 255) (drop (header_of k) r)

  pub converted-size : (r : List ℕ) → length r ≡ size_of k → length (converted k j r) ≡ size_of j
  unfolding converted
  converted-size r l = simp (length-append, length-take, length-drop, length-replicate) (omega arith)

-- ---- the slots of the output

module _ (k j : ℕ) (card : List ℕ) where
  pub converted-start : (out : List ℕ) → out ≡ converted_slots k j card 0 ++ drop (0 * size_of j) out
  unfolding over_first
  converted-start out = sym (ap (λ (x : ℕ). drop x out) (zero-mul (size_of j)))

  -- each slot has its size
  module _ (sized : (r : List ℕ) → length r ≡ size_of k → length (converted k j r) ≡ size_of j) (n : ℕ)
      (size : length card ≡ n * size_of k) where
    each-size : (i : ℕ) → i < n → length (converted k j (slot_in k card i)) ≡ size_of j
    each-size i h = sized (slot_in k card i) (slot-size k card n size i h)

    pub slots-size : (i : ℕ) → i ≤ n → length (converted_slots k j card i) ≡ i * size_of j
    slots-size i h = each_long k (converted k j) card (size_of j) i (λ t l. each-size t (omega arith))

    -- these are the slots of the output
    pub converted-slot : (m : ℕ) → m ≤ n → (i : ℕ) → i < m → slot_in j (converted_slots k j card m) i ≡ converted k j (slot_in k card i)
    converted-slot =
        each_at k (converted k j) card (size_of j) n (λ i h. omega (arith, each-size i h)) (λ i h. each-size i (omega arith))

    -- slot i, written into its part of the output
    pub converted-on : (i : ℕ) → i < n → (s : ℕ) → s ≡ size_of j → (old out new : List ℕ)
        → out ≡ converted_slots k j card i ++ drop (i * size_of j) old → new ≡ converted k j (slot_in k card i)
        → take (i * s) out ++ (new ++ drop (i * s + s - i * s) (drop (i * s) out))
        ≡ converted_slots k j card (i + 1) ++ drop ((i + 1) * size_of j) old
    unfolding over_first
    converted-on i h s e old out new eo en =
        let done = converted_slots k j card i in
        let rest = drop (i * size_of j) old in
        let back : i * s + s - i * s ≡ s = omega arith in
        let long : length done ≡ i * size_of j = slots-size i (omega arith) in
        ap (λ (x : ℕ). take (i * s) out ++ (new ++ drop x (drop (i * s) out))) back
        ∙ ap (λ (x : ℕ). take (i * x) out ++ (new ++ drop x (drop (i * x) out))) e
        ∙ ap (λ (l : List ℕ). take (i * size_of j) l ++ (new ++ drop (size_of j) (drop (i * size_of j) l))) eo
        ∙ ap₂ (λ (l r : List ℕ). l ++ (new ++ drop (size_of j) r)) (take_at done rest (i * size_of j) long)
        (drop_at done rest (i * size_of j) long)
        ∙ ap₂ (λ (l r : List ℕ). done ++ (l ++ r)) en (drop-drop (size_of j) (i * size_of j) old)
        ∙ sym (append_assoc done (converted k j (slot_in k card i)) (drop (i * size_of j + size_of j) old))
        ∙ rw (add-one i, suc-mul i (size_of j))
