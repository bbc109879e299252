-- Lists of places: their entries, that they are distinct and below a bound, and how often each occurs. Assumes nothing.
use Rattle.field.proofs.Base.{◌≡◌, refl, sym, ap, ◌∙◌, ◌≢◌, Bool, true, false, cond, not, ◌&&◌, ◌||◌, false≢true, List, [], ◌∷◌, ◌++◌, ℕ, zero, suc}
use Rattle.field.proofs.Base.{◌+◌, ◌≤◌, ◌<◌, zero-le, le_refl, ℕ_discrete, arith, not-true, ltb-false, lt-ltb, le-ltb, eqb-true, eq-eqb, ne_eqb, eqb}
use Rattle.field.proofs.Base.{ltb, length}
use mathlib.Core.Bool.{or_assoc}
use native.Mathlib.Nat.{zero-add}
use Rattle.field.specs.Question.{all_below}
use Rattle.field.proofs.Ask.{and-true-left, and-true-right}
use Rattle.code.specs.Erasure.{member, distinct, total}
use Rattle.code.specs.Demands.{occurs, SameErasures}
use Rattle.code.proofs.Sums.{total-le, total-add, total-cong, total-zero}
use Rattle.code.proofs.Questions.{or-false-left, or-false-right}

pub member-append : (a b : List ℕ) (p : ℕ) → member p (a ++ b) ≡ (member p a || member p b)
member-append [] b p = refl
member-append (x ∷ a) b p = ap (λ (t : Bool). eqb p x || t) (member-append a b p) ∙ sym (or_assoc (eqb p x) (member p a) (member p b))

module _ (a b : List ℕ) (p : ℕ) (o : member p (a ++ b) ≡ false) where
  pub append_left : member p a ≡ false
  append_left = or-false-left (member p a) (member p b) (sym (member-append a b p) ∙ o)

  pub append_right : member p b ≡ false
  append_right = or-false-right (member p a) (member p b) (sym (member-append a b p) ∙ o)

-- ---- distinct entries, entries below n

module _ (l : ℕ) (ls : List ℕ) where
  pub distinct_head : distinct (l ∷ ls) ≡ true → member l ls ≡ false
  distinct_head d = not-true (member l ls) (and-true-left (not (member l ls)) (distinct ls) d)

  pub distinct_tail : distinct (l ∷ ls) ≡ true → distinct ls ≡ true
  distinct_tail d = and-true-right (not (member l ls)) (distinct ls) d

  pub distinct_cons : member l ls ≡ false → distinct ls ≡ true → distinct (l ∷ ls) ≡ true
  distinct_cons e d = ap (λ (t : Bool). not t && distinct ls) e ∙ d

  pub below-cons : (n : ℕ) → l < n → all_below n ls ≡ true → all_below n (l ∷ ls) ≡ true
  below-cons n h b = ap (λ (t : Bool). t && all_below n ls) (lt-ltb l n h) ∙ b

-- ---- no more places are in the list than it has entries

one-le : (t : Bool) → cond t 1 0 ≤ 1
one-le true = le_refl 1
one-le false = zero-le

one-or : (s t : Bool) → cond (s || t) 1 0 ≤ cond s 1 0 + cond t 1 0
one-or true t = omega arith
one-or false t = omega arith

one-not : (p x : ℕ) → p ≢ x → ◌≡◌ {A = ℕ} (cond (eqb p x) 1 0) 0
one-not p x n = ap (λ (t : Bool). cond t 1 0) (ne_eqb p x n)

none_below : (x n : ℕ) → n ≤ x → total n (λ p. cond (eqb p x) 1 0) ≡ 0
none_below x n h = total-cong (λ p. cond (eqb p x) 1 0) (λ p. 0) n (λ p l. one-not p x (λ e. omega arith)) ∙ total-zero n

one_place : (n x : ℕ) → total n (λ p. cond (eqb p x) 1 0) ≤ 1
unfolding total
one_place zero x = zero-le
one_place (suc n) x = go (ℕ_discrete n x) (one_place n x)
  where
    go : Dec (n ≡ x) → total n (λ p. cond (eqb p x) 1 0) ≤ 1 → total n (λ p. cond (eqb p x) 1 0) + cond (eqb n x) 1 0 ≤ 1
    go (yes e) ih = omega (arith, none_below x n (omega arith), one-le (eqb n x))
    go (no d) ih = omega (arith, one-not n x d)

pub members-le : (n : ℕ) (es : List ℕ) → total n (λ p. cond (member p es) 1 0) ≤ length es
members-le n [] = omega (arith, total-zero n)
members-le n (x ∷ es) = omega (
  arith,
  total-le (λ p. cond (member p (x ∷ es)) 1 0) (λ p. cond (eqb p x) 1 0 + cond (member p es) 1 0) n (λ p h. one-or (eqb p x) (member p es)),
  total-add (λ p. cond (eqb p x) 1 0) (λ p. cond (member p es) 1 0) n,
  one_place n x,
  members-le n es,
)

-- ---- how often a number stands in a list

member-occurs : (p : ℕ) (xs : List ℕ) → member p xs ≡ ltb 0 (occurs p xs)
unfolding occurs
member-occurs p [] = refl
member-occurs p (x ∷ xs) = go (eqb p x) (member-occurs p xs)
  where
    go : (b : Bool) → member p xs ≡ ltb 0 (occurs p xs) → (b || member p xs) ≡ ltb 0 (cond b 1 0 + occurs p xs)
    go true h = sym (lt-ltb 0 (1 + occurs p xs) (omega arith))
    go false h = rw zero-add h

not-member-occurs : (p : ℕ) (xs : List ℕ) → member p xs ≡ false → occurs p xs ≡ 0
not-member-occurs p xs h = let t = ltb-false 0 (occurs p xs) (sym (member-occurs p xs) ∙ h) in omega arith

-- the entries are all different exactly when none occurs twice
pub distinct-once : (xs : List ℕ) → distinct xs ≡ true → (p : ℕ) → occurs p xs ≤ 1
unfolding occurs
distinct-once [] d p = omega arith
distinct-once (x ∷ xs) d p = go (eqb p x) refl (distinct-once xs (distinct_tail x xs d) p)
  where
    go : (b : Bool) → eqb p x ≡ b → occurs p xs ≤ 1 → cond b 1 0 + occurs p xs ≤ 1
    go true e h =
        let z = not-member-occurs p xs (ap (λ (y : ℕ). member y xs) (eqb-true p x e) ∙ distinct_head x xs d) in
        omega arith
    go false e h = omega arith

pub once-distinct : (xs : List ℕ) → ((p : ℕ) → occurs p xs ≤ 1) → distinct xs ≡ true
unfolding occurs
once-distinct [] h = refl
once-distinct (x ∷ xs) h =
    distinct_cons x xs
    (member-occurs x xs ∙ le-ltb 0 (occurs x xs) (omega (arith, rw (eq-eqb x x refl) at (h x))))
    (once-distinct xs (λ p. omega (arith, h p)))

-- a list without one of its entries
without : (x : ℕ) (ys : List ℕ) → member x ys ≡ true
    → (zs : List ℕ) × (length ys ≡ suc (length zs)) × ((p : ℕ) → occurs p ys ≡ cond (eqb p x) 1 0 + occurs p zs)
unfolding occurs
without x [] h = absurd (false≢true h)
without x (y ∷ ys) h = go (eqb x y) refl h (λ t. without x ys t)
  where
    Without : List ℕ → Type 0
    Without us = (zs : List ℕ) × (length us ≡ suc (length zs)) × ((p : ℕ) → occurs p us ≡ cond (eqb p x) 1 0 + occurs p zs)

    go : (b : Bool) → eqb x y ≡ b → (b || member x ys) ≡ true → (member x ys ≡ true → Without ys) → Without (y ∷ ys)
    go true e t ih = (ys, refl, λ p. ap (λ (z : ℕ). cond (eqb p z) 1 0 + occurs p ys) (sym (eqb-true x y e)))
    go false e t ih =
        let r = ih t in
        (y ∷ r.0, ap suc r.1, λ p. omega (arith, r.2 p))

-- lists with the same entries, each equally often, have the same members and are equally long
pub same-member : (xs ys : List ℕ) → SameErasures xs ys → (p : ℕ) → member p xs ≡ member p ys
same-member xs ys same p = member-occurs p xs ∙ ap (ltb 0) (same p) ∙ sym (member-occurs p ys)

pub same_length : (xs ys : List ℕ) → SameErasures xs ys → length xs ≡ length ys
unfolding occurs
same_length [] [] same = refl
same_length [] (y ∷ ys) same = absurd (omega (arith, rw (eq-eqb y y refl) at (same y)))
same_length (x ∷ xs) ys same =
    let r = without x ys (member-occurs x ys ∙ lt-ltb 0 (occurs x ys) (omega (arith, rw (eq-eqb x x refl) at (same x)))) in
    ap suc (same_length xs r.0 (λ p. omega (arith, same p, r.2 p))) ∙ sym r.1
