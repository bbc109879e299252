-- The fold over the slots of a part: slot by slot, of two parts, and what a step that puts texts behind each other makes. Assumes nothing.
use Rattle.field.proofs.Base.{◌≡◌, refl, sym, ap, ap₂, ◌∙◌, List, [], ◌++◌, append_assoc, append-nil, ℕ, zero, suc, ◌+◌, ◌*◌, ◌/◌, ◌%◌, ◌≤◌, ◌<◌}
use Rattle.field.proofs.Base.{ℕ_discrete, add-zero, zero-mul, add-one, arith, length, take, drop, length-append, length-take, length-drop, take_all}
use Rattle.field.proofs.Base.{drop_at}
use native.Mathlib.Nat.{add-suc, suc-mul, mul-div_cancel, mul-add-div_right, mul-add-mod_self_right}
use lib.Seq.{drop-append-le, take-append-le}
use Rattle.card.specs.Record.{size_of, erasure_bytes, record_size}
use Rattle.card.specs.Slots.{slot_in, slot_count, record_count, over_first, over_slots, over_whole, appended}
use Rattle.card.proofs.Slots.{slot-before, slot-front, slot-behind}

-- ---- slot by slot

module _ {A : Type 0} (k : ℕ) (step : A → List ℕ → A) (s : A) where
  pub over_none : (part : List ℕ) → s ≡ over_first k step s part 0
  unfolding over_first
  over_none part = refl

  pub over-more : (part : List ℕ) (i : ℕ) → step (over_first k step s part i) (slot_in k part i) ≡ over_first k step s part (i + 1)
  unfolding over_first
  over-more part i = rw (add-one i) refl

  pub over-on : (part : List ℕ) (i : ℕ) (slot : List ℕ) (u v : A) → u ≡ over_first k step s part i → v ≡ step u slot → slot ≡ slot_in k part i
      → v ≡ over_first k step s part (i + 1)
  over-on part i slot u v eu ev es = ev ∙ ap₂ step eu es ∙ over-more part i

  -- parts of whose slots the step makes the same
  pub over-same : (a b : List ℕ) (n : ℕ) → ((i : ℕ) → i < n → (u : A) → step u (slot_in k a i) ≡ step u (slot_in k b i))
      → over_first k step s a n ≡ over_first k step s b n
  unfolding over_first
  over-same a b zero h = refl
  over-same a b (suc n) h =
      ap (λ (u : A). step u (slot_in k a n)) (over-same a b n (λ i l. h i (omega arith))) ∙ h n (omega arith) (over_first k step s b n)

  -- two parts, the first of j whole slots
  pub over-two : (a b : List ℕ) (j : ℕ) → length a ≡ j * size_of k → (n : ℕ)
      → over_first k step s (a ++ b) (j + n) ≡ over_first k step (over_first k step s a j) b n
  unfolding over_first
  over-two a b j whole zero = rw (add-zero j) (over-same (a ++ b) a j (λ i l u. ap (step u) (slot-front k a b i j l (omega (arith, whole)))))
  over-two a b j whole (suc n) = rw (add-suc j n) (ap₂ step (over-two a b j whole n) (slot-behind k a b n j whole))

-- what h makes of the carried is carried too
pub over-map : {A B : Type 0} (k : ℕ) (f : A → List ℕ → A) (g : B → List ℕ → B) (h : A → B)
    → ((u : A) (slot : List ℕ) → h (f u slot) ≡ g (h u) slot) → (s : A) (part : List ℕ) (n : ℕ)
    → h (over_first k f s part n) ≡ over_first k g (h s) part n
unfolding over_first
over-map k f g h same s part zero = refl
over-map k f g h same s part (suc n) =
    same (over_first k f s part n) (slot_in k part n) ∙ ap (λ (v : _). g v (slot_in k part n)) (over-map k f g h same s part n)

-- one slot, whole or not
pub over-one : {A : Type 0} (step : A → List ℕ → A) (s : A) (slot : List ℕ) → 0 < length slot → length slot ≤ record_size
    → over_slots step s slot ≡ step s slot
unfolding over_first
over-one step s slot h l =
    let one : record_count (length slot) ≡ 1 = omega arith in
    rw one (ap (step s) (take_all record_size slot l))

-- ---- all slots of two parts

module _ (a b : List ℕ) (j : ℕ) (whole : length a ≡ j * record_size) where
  pub count-first : record_count (length a) ≡ j
  count-first = omega arith

  pub count-two : record_count (length (a ++ b)) ≡ j + record_count (length b)
  count-two = simp length-append (omega arith)

-- A card may come in parts: the second goes on from what the first has made.
pub in_parts : {A : Type 0} (step : A → List ℕ → A) (a b : List ℕ) (j : ℕ) → length a ≡ j * record_size → (s : A)
    → over_slots step s (a ++ b) ≡ over_slots step (over_slots step s a) b
in_parts step a b j whole s =
    rw (count-two a b j whole, count-first a b j whole) (over-two erasure_bytes step s a b j whole (record_count (length b)))

-- the same of whole slots, in any edition
module _ (k : ℕ) (a b : List ℕ) (j : ℕ) (whole : length a ≡ j * size_of k) where
  length_two : length (a ++ b) ≡ j * size_of k + length b
  length_two = length-append a b ∙ ap (λ (x : ℕ). x + length b) whole

  pub whole-first : slot_count k (length a) ≡ j
  whole-first = ap (λ (x : ℕ). x / size_of k) whole ∙ mul-div_cancel j (omega arith)

  pub whole-two : slot_count k (length (a ++ b)) ≡ j + slot_count k (length b)
  whole-two = ap (λ (x : ℕ). x / size_of k) length_two ∙ mul-add-div_right (omega arith) j (length b)

  pub rest-two : length (a ++ b) % size_of k ≡ length b % size_of k
  rest-two = ap (λ (x : ℕ). x % size_of k) length_two ∙ mul-add-mod_self_right j (size_of k) (length b)

pub whole_parts : {A : Type 0} (k : ℕ) (step : A → List ℕ → A) (a b : List ℕ) (j : ℕ) → length a ≡ j * size_of k → (s : A)
    → over_whole k step s (a ++ b) ≡ over_whole k step (over_whole k step s a) b
whole_parts k step a b j whole s =
    rw (whole-two k a b j whole, whole-first k a b j whole) (over-two k step s a b j whole (slot_count k (length b)))

-- ---- a step that puts what f makes of a slot behind what there is

module _ (k : ℕ) (f : List ℕ → List ℕ) where
  pub each-front : (xs part : List ℕ) (n : ℕ) → over_first k (appended f) xs part n ≡ xs ++ over_first k (appended f) [] part n
  each-front xs part n =
      sym (over-map k (appended f) (appended f) (λ (ys : List ℕ). xs ++ ys) (λ u slot. sym (append_assoc xs u (f slot))) [] part n
      ∙ ap (λ (ys : List ℕ). over_first k (appended f) ys part n) (append-nil xs))

  module _ (part : List ℕ) where
    abbrev E : ℕ → List ℕ
    E n = over_first k (appended f) [] part n

    -- where f keeps the length
    pub each-kept : ((r : List ℕ) → length (f r) ≡ length r) → (n : ℕ) → length (over_first k (appended f) [] part n) ≡ length (take (n * size_of k) part)
    unfolding over_first
    each-kept kept zero = sym (ap (λ (x : ℕ). length (take x part)) (zero-mul (size_of k)))
    each-kept kept (suc n) =
        length-append (E n) (f (slot_in k part n))
        ∙ omega (
          arith,
          each-kept kept n,
          kept (slot_in k part n),
          suc-mul n (size_of k),
          length-take (size_of k) (drop (n * size_of k) part),
          length-drop (n * size_of k) part,
          length-take (n * size_of k) part,
          length-take (suc n * size_of k) part,
        )

    -- where f makes m bytes of each of t slots
    pub each_long : (m t : ℕ) → ((i : ℕ) → i < t → length (f (slot_in k part i)) ≡ m) → length (over_first k (appended f) [] part t) ≡ t * m
    unfolding over_first
    each_long m zero h = sym (zero-mul m)
    each_long m (suc t) h =
        length-append (E t) (f (slot_in k part t)) ∙ ap₂ ◌+◌ (each_long m t (λ i l. h i (omega arith))) (h t (omega arith)) ∙ sym (suc-mul t m)

    -- where f makes at most m bytes of each of n slots, and just m of each but the last
    module _ (m n : ℕ) (most : (i : ℕ) → i < n → length (f (slot_in k part i)) ≤ m) (full : (i : ℕ) → suc i < n → length (f (slot_in k part i)) ≡ m) where
      -- these are the slots of the output
      pub each_at : (t : ℕ) → t ≤ n → (i : ℕ) → i < t → take m (drop (i * m) (over_first k (appended f) [] part t)) ≡ f (slot_in k part i)
      unfolding over_first
      each_at zero h i l = absurd (omega arith)
      each_at (suc t) h i l = go (ℕ_discrete i t) (each_at t (omega arith) i)
        where
          long : length (E t) ≡ t * m
          long = each_long m t (λ x u. full x (omega arith))

          go : Dec (i ≡ t) → (i < t → take m (drop (i * m) (E t)) ≡ f (slot_in k part i))
              → take m (drop (i * m) (E t ++ f (slot_in k part t))) ≡ f (slot_in k part i)
          go (yes e) next =
              ap (λ (x : ℕ). take m (drop (x * m) (E t ++ f (slot_in k part t)))) e
              ∙ ap (take m) (drop_at (E t) (f (slot_in k part t)) (t * m) long)
              ∙ take_all m (f (slot_in k part t)) (most t h)
              ∙ ap (λ (x : ℕ). f (slot_in k part x)) (sym e)
          go (no e) next =
              let u : i < t = omega arith in
              let inside = slot-before m i t u in
              ap (take m) (drop-append-le (i * m) (E t) (f (slot_in k part t)) (omega (arith, inside, long)))
              ∙ take-append-le m (drop (i * m) (E t)) (f (slot_in k part t)) (simp length-drop (omega (arith, inside, long)))
              ∙ next u
