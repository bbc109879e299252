-- The texts of a quarter hour, and the search for it. Assumes nothing.
use Rattle.std.proofs.Common.{Some, None, Option}
use Rattle.field.proofs.Base.{◌≡◌, refl, sym, ap, ◌∙◌, subst, ◌⊎◌, inl, inr, ⊎_elim, Bool, true, false, cond, ◌&&◌, ◌||◌, List, ℕ, zero, suc, ◌+◌}
use Rattle.field.proofs.Base.{◌-◌, ◌≤◌, ◌<◌, arith, eqb-true, eqb-false, eqb}
use native.Mathlib.Numerals.{unary_clauses}
use Rattle.field.proofs.Ask.{and-true-left, and-true-right}
use Rattle.code.specs.Call.{same_bytes}
use Rattle.code.proofs.Same.{same-equal}
use Rattle.card.specs.Listing.{digits_from, decimal}
use Rattle.sheet.specs.Sheet.{quarters}
use Rattle.report.specs.Table.{two_digits}
use Rattle.report.specs.Quarter.{clock_text, is_quarter, quarter_below, quarter_of}

-- ---- the search

module _ (text : List ℕ) where
  -- one turn of it, from n on
  below : (n : ℕ) → 0 < n → quarter_below text n ≡ cond (is_quarter text (n - 1)) (Some (n - 1)) (quarter_below text (n - 1))
  unfolding quarter_below
  below zero h = absurd (omega arith)
  below (suc n) h = simp unary_clauses

  module _ (n : ℕ) (h : 0 < n) (b : Bool) (e : b ≡ is_quarter text (n - 1)) where
    turned : quarter_below text n ≡ cond b (Some (n - 1)) (quarter_below text (n - 1))
    turned = below n h ∙ ap (λ (x : Bool). cond x (Some (n - 1)) (quarter_below text (n - 1))) (sym e)

    pub found : b ≡ true → quarter_below text n ≡ Some (n - 1)
    found t = turned ∙ ap (λ (x : Bool). cond x (Some (n - 1)) (quarter_below text (n - 1))) t

    pub passed : b ≡ false → quarter_below text n ≡ quarter_below text (n - 1)
    passed t = turned ∙ ap (λ (x : Bool). cond x (Some (n - 1)) (quarter_below text (n - 1))) t

  pub none : quarter_below text 0 ≡ None
  unfolding quarter_below
  none = refl

-- ---- what a text stands for

or-true : (a b : Bool) → (a || b) ≡ true → (a ≡ true) ⊎ (b ≡ true)
or-true true b e = inl refl
or-true false b e = inr e

-- what is found is one of the two texts
found-text : (text : List ℕ) (k n : ℕ) → quarter_below text k ≡ Some n → (n < k) × ((text ≡ decimal n) ⊎ (text ≡ clock_text n))
unfolding quarter_below is_quarter
found-text text zero n e = let z : ◌≡◌ {A = ℕ} 0 1 = cc in absurd (omega arith)
found-text text (suc k) n e = go (is_quarter text k) (found-text text k n) refl e
  where
    go : (b : Bool) → (quarter_below text k ≡ Some n → (n < k) × ((text ≡ decimal n) ⊎ (text ≡ clock_text n)))
        → is_quarter text k ≡ b → cond b (Some k) (quarter_below text k) ≡ Some n → (n < suc k) × ((text ≡ decimal n) ⊎ (text ≡ clock_text n))
    go true lower t f =
        let same : k ≡ n = cc in (
          omega arith,
          subst (λ (m : ℕ). (text ≡ decimal m) ⊎ (text ≡ clock_text m)) same
              (⊎_elim (λ u. inl (same-equal text (decimal k) u)) (λ u. inr (same-equal text (clock_text k) u))
              (or-true (same_bytes text (decimal k)) (same_bytes text (clock_text k)) t)),
        )
    go false lower t f = let G = lower f in (omega (arith, G.0), G.1)

pub stands-for : (text : List ℕ) (n : ℕ) → quarter_of text ≡ Some n → (n ≤ quarters) × ((text ≡ decimal n) ⊎ (text ≡ clock_text n))
stands-for text n e = let G = found-text text (quarters + 1) n e in (omega (arith, G.0), G.1)

-- both texts of every quarter hour are found: a test that is computed
is_at : ℕ → Option ℕ → Bool
is_at n (Some m) = eqb m n
is_at n None = false

at-is : (n : ℕ) (t : Option ℕ) → is_at n t ≡ true → t ≡ Some n
unfolding is_at
at-is n (Some m) e = ap Some (eqb-true m n e)
at-is n None e = let z : ◌≡◌ {A = ℕ} 0 1 = cc in absurd (omega arith)

found_below : ℕ → Bool
found_below zero = true
found_below (suc n) = is_at n (quarter_of (decimal n)) && (is_at n (quarter_of (clock_text n)) && found_below n)

all_found : found_below (quarters + 1) ≡ true
unfolding found_below is_at quarter_below is_quarter same_bytes clock_text two_digits digits_from
all_found = refl

each-found : (k n : ℕ) → found_below k ≡ true → n < k → (quarter_of (decimal n) ≡ Some n) × (quarter_of (clock_text n) ≡ Some n)
unfolding found_below
each-found zero n e h = absurd (omega arith)
each-found (suc k) n e h =
    let rest = and-true-right (is_at k (quarter_of (decimal k))) (is_at k (quarter_of (clock_text k)) && found_below k) e in
    go (eqb n k) refl (each-found k n (and-true-right (is_at k (quarter_of (clock_text k))) (found_below k) rest))
    (at-is k _ (and-true-left (is_at k (quarter_of (decimal k))) (is_at k (quarter_of (clock_text k)) && found_below k) e))
    (at-is k _ (and-true-left (is_at k (quarter_of (clock_text k))) (found_below k) rest))
  where
    go : (b : Bool) → eqb n k ≡ b → (n < k → (quarter_of (decimal n) ≡ Some n) × (quarter_of (clock_text n) ≡ Some n))
        → quarter_of (decimal k) ≡ Some k → quarter_of (clock_text k) ≡ Some k → (quarter_of (decimal n) ≡ Some n) × (quarter_of (clock_text n) ≡ Some n)
    go true t lower number clock = rw (eqb-true n k t) (number, clock)
    go false t lower number clock = lower (omega (arith, eqb-false n k t))

pub quarter-texts : (text : List ℕ) (n : ℕ) → (n ≤ quarters) × ((text ≡ decimal n) ⊎ (text ≡ clock_text n)) → quarter_of text ≡ Some n
quarter-texts text n h =
    let F = each-found (quarters + 1) n all_found (omega (arith, h.0)) in
    ⊎_elim (λ e. ap quarter_of e ∙ F.0) (λ e. ap quarter_of e ∙ F.1) h.1
