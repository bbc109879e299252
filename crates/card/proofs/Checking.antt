-- The card check. Assumes nothing.
use Rattle.field.proofs.Base.{◌≡◌, refl, sym, ap, ◌∙◌, subst, Bool, true, false, not, false≢true, List, ℕ, zero, suc, ◌+◌, ◌-◌, ◌*◌, ◌≤◌, ◌<◌, dec_lt}
use Rattle.field.proofs.Base.{arith, not-true, not-false, length, take, drop, length-drop, take_all}
use mathlib.Core.Logic.{◌↔◌}
use borrow.Author.Count.{below_more}
use Rattle.card.specs.Record.{erasure_bytes, record_size}
use Rattle.card.specs.Slots.{record_count, record_at, over_first}
use Rattle.card.specs.Card.{fine, Check, no_bad, bad, Search, passed, named, sought, searched, answer, first_refused}
use Rattle.card.specs.Card.{FirstBad, NoneBad, Checks}

-- a shorter last piece
pub last-piece : (card : List ℕ) (at : ℕ) → length card - at < record_size
    → take (length card - at) (drop at card) ≡ take record_size (drop at card)
last-piece card at h =
    take_all (length card - at) (drop at card) (simp length-drop (omega arith))
    ∙ sym (take_all record_size (drop at card) (simp length-drop (omega arith)))

-- ---- the first slot that is not fine

module _ (card : List ℕ) where
  unfoldable pub AllFine : ℕ → Type 0
  AllFine n = (j : ℕ) → j < n → fine (record_at card j) ≡ true

  -- what a search over the first n slots says of them
  unfoldable pub Means : ℕ → Search → Type 0
  Means n (passed m) = (m ≡ n) × AllFine n
  Means n (named m r) = (1 ≤ m) × (m ≤ n) × (r ≡ record_at card (m - 1)) × (fine (record_at card (m - 1)) ≡ false) × AllFine (m - 1)

  means : (n : ℕ) → Means n (over_first erasure_bytes sought (passed 0) card n)
  unfolding over_first AllFine Means
  means zero = (refl, λ j h. absurd (omega arith))
  means (suc n) = go (over_first erasure_bytes sought (passed 0) card n) (means n) (fine (record_at card n)) refl
    where
      go : (u : Search) → Means n u → (b : Bool) → fine (record_at card n) ≡ b → Means (suc n) (sought u (record_at card n))
      go (named m r) M b t = (M.0, omega (arith, M.1), M.2, M.3, M.4)
      go (passed m) M true t =
          rw t (omega (arith, M.0), λ j h. below_more (λ (x : ℕ). fine (record_at card x) ≡ true) n M.1 t j (omega arith))
      go (passed m) M false t =
          let here : n ≡ m + 1 - 1 = omega (arith, M.0) in
          rw t (
            omega arith,
            omega (arith, M.0),
            ap (record_at card) here,
            ap (λ (x : ℕ). fine (record_at card x)) (sym here) ∙ t,
            λ j h. M.1 j (omega (arith, here)),
          )

  pub searched-means : Means (record_count (length card)) (searched 0 card)
  searched-means = means (record_count (length card))

-- the card check gives the number k exactly when record k would be refused and every record before it would be accepted or is blank
pub first_some : (card : List ℕ) (k : ℕ) → first_refused card ≡ bad k ↔ FirstBad card k
unfolding AllFine Means
first_some card k = (to (searched 0 card) (searched-means card), from (searched 0 card) (searched-means card))
  where
    to : (u : Search) → Means card (record_count (length card)) u → answer u ≡ bad k → FirstBad card k
    to (passed m) M e = let z : ◌≡◌ {A = ℕ} 0 1 = cc in absurd (omega arith)
    to (named m r) M e =
        let same : m ≡ k = cc in
        subst (FirstBad card) same (record { number = M.0; inside = M.1; refused = M.3; before = M.4 })

    from : (u : Search) → Means card (record_count (length card)) u → FirstBad card k → answer u ≡ bad k
    from (passed m) M B = absurd (false≢true (sym B.refused ∙ M.1 (k - 1) (omega (arith, B.number, B.inside))))
    from (named m r) M B = ap bad (go (dec_lt m k) (dec_lt k m))
      where
        go : Dec (m < k) → Dec (k < m) → m ≡ k
        go (yes l) d = absurd (false≢true (sym M.3 ∙ B.before (m - 1) (omega (arith, M.0))))
        go (no n) (yes l) = absurd (false≢true (sym B.refused ∙ M.4 (k - 1) (omega (arith, B.number))))
        go (no n) (no o) = omega arith

-- it gives no number exactly when no record would be refused
pub first-none : (card : List ℕ) → first_refused card ≡ no_bad ↔ NoneBad card
unfolding AllFine Means
first-none card = (to (searched 0 card) (searched-means card), from (searched 0 card) (searched-means card))
  where
    to : (u : Search) → Means card (record_count (length card)) u → answer u ≡ no_bad → NoneBad card
    to (passed m) M e = M.1
    to (named m r) M e = let z : ◌≡◌ {A = ℕ} 0 1 = cc in absurd (omega arith)

    from : (u : Search) → Means card (record_count (length card)) u → NoneBad card → answer u ≡ no_bad
    from (passed m) M N = refl
    from (named m r) M N = absurd (false≢true (sym M.3 ∙ N (m - 1) (omega (arith, M.0, M.1))))

-- and it is a card check as document 01 has it
pub checks : (card : List ℕ) → Checks card (first_refused card)
checks card = go (first_refused card) refl
  where
    go : (r : Check) → first_refused card ≡ r → Checks card r
    go no_bad e = (first-none card).0 e
    go (bad k) e = let B = (first_some card k).0 e in (B.number, B.inside, B.refused)

-- ---- the walk

-- the slots before slot i are fine, which begins at byte `at`
pub record Walked (card : List ℕ) (at i : ℕ) : Type 0 where
  pub place : at ≡ i * record_size
  pub before : (j : ℕ) → j < i → fine (record_at card j) ≡ true

-- b is what `is_fine` said of the slot at byte `at`
module _ (card : List ℕ) (at i : ℕ) (W : Walked card at i) (b : Bool) (slot : List ℕ) (eb : b ≡ fine slot)
    (er : slot ≡ take record_size (drop at card)) where
  this : b ≡ fine (record_at card i)
  this = eb ∙ ap fine (er ∙ ap (λ (n : ℕ). take record_size (drop n card)) W.place)

  pub checks-refused : at < length card → not b ≡ true → bad (i + 1) ≡ first_refused card
  checks-refused h t =
      let less : i + 1 - 1 ≡ i = omega arith in
      sym ((first_some card (i + 1)).1 (record {
        number = omega arith;
        inside = omega (arith, W.place);
        refused = ap (λ (n : ℕ). fine (record_at card n)) less ∙ sym this ∙ not-true b t;
        before = λ j l. W.before j (omega arith);
      }))

  pub checks-last : at < length card → length card - at ≤ record_size → not b ≡ false → no_bad ≡ first_refused card
  checks-last h l t =
      sym ((first-none card).1
      (λ j k. below_more (λ (n : ℕ). fine (record_at card n) ≡ true) i W.before (sym this ∙ not-false b t) j (omega (arith, W.place))))

pub checks-end : (card : List ℕ) (at i : ℕ) → Walked card at i → length card ≤ at → no_bad ≡ first_refused card
checks-end card at i W h = sym ((first-none card).1 (λ j k. W.before j (omega (arith, W.place))))
