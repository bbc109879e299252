-- What the tests of the questions mean, both ways, and how each steps along a list, for the loops that carry it out. Assumes nothing.
use Rattle.field.proofs.Base.{◌≡◌, refl, sym, ap, ap₂, ◌∙◌, ◌≢◌, ◌⊎◌, inl, inr, ⊎_elim, Bool, true, false, not, ◌&&◌, ◌||◌, false≢true, List, [], ◌∷◌, ℕ}
use Rattle.field.proofs.Base.{zero, suc, ◌+◌, ◌-◌, ◌≤◌, ◌<◌, le_of_suc-le-suc, not-suc-le-zero, add-zero, add-one, arith, lt-ltb, le-ltb, ltb-true}
use Rattle.field.proofs.Base.{eq-eqb, eqb-true, eqb-false, ltb, eqb, length, get_or, take, drop, drop-cons}
use mathlib.Core.Bool.{or-true}
use Rattle.std.specs.List.{list_all, list_any}
use native.Mathlib.Nat.{zero-add, add-suc, suc-add}
use lib.Dec.{eqb-suc-zero}
use Rattle.field.specs.Question.{all_below}
use Rattle.field.proofs.Ask.{and-true-left, and-true-right}
use Rattle.code.specs.inner.Block.{Run}
use Rattle.field.proofs.Below.{and-holds}
pub use Rattle.field.proofs.Below.{all_below-means, all_below-holds}
use Rattle.code.specs.Erasure.{member, distinct, symbols_from}
use Rattle.code.specs.Call.{all_zero}
use Rattle.code.proofs.Loops.{part-drop, run_on}

-- ---- Booleans

or-means : (a b : Bool) → (a || b) ≡ true → (a ≡ true) ⊎ (b ≡ true)
or-means true b h = inl refl
or-means false b h = inr h

pub or-false-left : (a b : Bool) → (a || b) ≡ false → a ≡ false
or-false-left true b h = h
or-false-left false b h = refl

pub or-false-right : (a b : Bool) → (a || b) ≡ false → b ≡ false
or-false-right true b h = absurd (false≢true (sym h))
or-false-right false b h = h

-- two tests that hold in the same cases are equal
pub bool_eq : (a b : Bool) → (a ≡ true → b ≡ true) → (b ≡ true → a ≡ true) → a ≡ b
bool_eq true b f g = sym (f refl)
bool_eq false true f g = g refl
bool_eq false false f g = refl

pub both_ways : {b : Bool} → b ≡ true → b ≡ false → ⊥
both_ways h k = false≢true (sym k ∙ h)

-- ---- what the tests mean

pub member-means : (a : ℕ) (xs : List ℕ) → member a xs ≡ true → (k : ℕ) × (k < length xs) × (get_or xs k 0 ≡ a)
member-means a [] h = absurd (false≢true h)
member-means a (x ∷ xs) h =
    ⊎_elim (λ e. (zero, omega arith, sym (eqb-true a x e)))
    (λ e. let r = member-means a xs e in (suc r.0, omega (arith, r.1), r.2))
    (or-means (eqb a x) (member a xs) h)

member-tail : (a x : ℕ) (xs : List ℕ) → member a xs ≡ true → member a (x ∷ xs) ≡ true
member-tail a x xs h = rw h (or-true (eqb a x))

pub member-at : (a : ℕ) (xs : List ℕ) (k : ℕ) → k < length xs → get_or xs k 0 ≡ a → member a xs ≡ true
member-at a [] k l e = absurd (not-suc-le-zero l)
member-at a (x ∷ xs) zero l e = simp (eq-eqb a x (sym e))
member-at a (x ∷ xs) (suc k) l e = member-tail a x xs (member-at a xs k (le_of_suc-le-suc l) e)

-- a number that is not in a list is neither its first entry nor in the rest
pub not-member-head : (a x : ℕ) (xs : List ℕ) → member a (x ∷ xs) ≡ false → a ≢ x
not-member-head a x xs h = eqb-false a x (or-false-left (eqb a x) (member a xs) h)

pub not-member-tail : (a x : ℕ) (xs : List ℕ) → member a (x ∷ xs) ≡ false → member a xs ≡ false
not-member-tail a x xs h = or-false-right (eqb a x) (member a xs) h

-- every symbol outside the erasures is below q
module _ (q : ℕ) (es : List ℕ) where
  from-means : (j : ℕ) (xs : List ℕ) → symbols_from q es j xs ≡ true → (k : ℕ) → k < length xs → member (j + k) es ≡ false → get_or xs k 0 < q
  from-means j [] h k l m = absurd (not-suc-le-zero l)
  from-means j (x ∷ xs) h zero l m =
      ⊎_elim (λ t. ltb-true x q t) (λ t. absurd (both_ways t (rw add-zero at m)))
      (or-means (ltb x q) (member j es) (and-true-left (ltb x q || member j es) (symbols_from q es (suc j) xs) h))
  from-means j (x ∷ xs) h (suc k) l m =
      from-means (suc j) xs (and-true-right (ltb x q || member j es) (symbols_from q es (suc j) xs) h) k (le_of_suc-le-suc l)
      (rw (suc-add, ← add-suc) m)

  from-holds : (j : ℕ) (xs : List ℕ) → ((k : ℕ) → k < length xs → member (j + k) es ≡ false → get_or xs k 0 < q) → symbols_from q es j xs ≡ true
  from-holds j [] h = refl
  from-holds j (x ∷ xs) h =
      and-holds (ltb x q || member j es) (symbols_from q es (suc j) xs) (first (member j es) (λ m. h zero (omega arith) (rw add-zero m)))
      (from-holds (suc j) xs (λ k l m. h (suc k) (omega arith) (rw (add-suc, ← suc-add) m)))
    where
      first : (b : Bool) → (b ≡ false → x < q) → (ltb x q || b) ≡ true
      first true f = or-true (ltb x q)
      first false f = rw (lt-ltb x q (f refl))

  pub symbols-means : (xs : List ℕ) → symbols_from q es 0 xs ≡ true → (k : ℕ) → k < length xs → member k es ≡ false → get_or xs k 0 < q
  symbols-means xs h k l m = from-means 0 xs h k l (rw zero-add m)

  pub symbols-holds : (xs : List ℕ) → ((k : ℕ) → k < length xs → member k es ≡ false → get_or xs k 0 < q) → symbols_from q es 0 xs ≡ true
  symbols-holds xs h = from-holds 0 xs (λ k l m. h k l (rw zero-add at m))

-- ---- how a loop over a list carries a test out: it goes on, it stops, it ends

drop-one : (xs : List ℕ) (i : ℕ) → i < length xs → drop i xs ≡ get_or xs i 0 ∷ drop (i + 1) xs
drop-one xs i h = rw (add-one, drop-cons xs i 0)

module _ (n : ℕ) (xs : List ℕ) (i : ℕ) (e : all_below n xs ≡ all_below n (drop i xs)) where
  all_below-step : i < length xs → all_below n xs ≡ (ltb (get_or xs i 0) n && all_below n (drop (i + 1) xs))
  all_below-step h = e ∙ ap (all_below n) (drop-one xs i h)

  pub all_below-on : i < length xs → get_or xs i 0 < n → all_below n xs ≡ all_below n (drop (i + 1) xs)
  all_below-on h t = all_below-step h ∙ simp (lt-ltb _ _ t)

pub all_below-run : (n : ℕ) (xs : List ℕ) (i r : ℕ) → Run (λ p. get_or xs p 0 < n) i (length xs) r → all_below n xs ≡ all_below n (drop i xs)
    → all_below n xs ≡ all_below n (drop r xs)
all_below-run n xs i r = run_on (λ p. all_below n xs ≡ all_below n (drop p xs)) (λ p. get_or xs p 0 < n) i (length xs) r (λ p h t e. all_below-on n xs p e h t)

-- a slice's own tests
pub all_below-all : (n : ℕ) (xs : List ℕ) → list_all (λ x. ltb x n) xs ≡ all_below n xs
all_below-all n [] = refl
all_below-all n (x ∷ xs) = ap (λ (b : Bool). ltb x n && b) (all_below-all n xs)

pub eqb-swap : (x y : ℕ) → eqb x y ≡ eqb y x
eqb-swap x y = bool_eq (eqb x y) (eqb y x) (λ h. eq-eqb y x (sym (eqb-true x y h))) (λ h. eq-eqb x y (sym (eqb-true y x h)))

pub member-any : (a : ℕ) (xs : List ℕ) → list_any (λ x. eqb x a) xs ≡ member a xs
member-any a [] = refl
member-any a (x ∷ xs) = ap₂ ◌||◌ (eqb-swap x a) (member-any a xs)

-- what is below 1 is 0
pub all_zero-below : (xs : List ℕ) → all_below 1 xs ≡ all_zero xs
all_zero-below [] = refl
all_zero-below (zero ∷ xs) = all_zero-below xs
all_zero-below (suc x ∷ xs) =
    ap (λ (b : Bool). b && all_below 1 xs) (le-ltb (suc x) 1 (omega arith)) ∙ sym (ap (λ (b : Bool). b && all_zero xs) (eqb-suc-zero x))

-- b tells whether the entry i is in the part after it
module _ (xs : List ℕ) (i : ℕ) (b : Bool) (e : distinct xs ≡ distinct (drop i xs)) (h : i < length xs)
    (m : b ≡ list_any (λ x. eqb x (get_or xs i 0)) (take (length xs - (i + 1)) (drop (i + 1) xs))) where
  distinct-step : distinct xs ≡ (not b && distinct (drop (i + 1) xs))
  distinct-step = e ∙ ap distinct (drop-one xs i h) ∙ rw (m, member-any (get_or xs i 0), part-drop)

  pub distinct-on : b ≡ false → distinct xs ≡ distinct (drop (i + 1) xs)
  distinct-on t = distinct-step ∙ simp t

  pub distinct-stop : b ≡ true → false ≡ distinct xs
  distinct-stop t = sym (distinct-step ∙ simp t)

-- b tells whether the place i is one of the erasures
module _ (q : ℕ) (es xs : List ℕ) (i : ℕ) (e : symbols_from q es 0 xs ≡ symbols_from q es i (drop i xs)) where
  symbols-step : i < length xs → symbols_from q es 0 xs ≡ ((ltb (get_or xs i 0) q || member i es) && symbols_from q es (i + 1) (drop (i + 1) xs))
  symbols-step h = e ∙ ap (symbols_from q es i) (drop-one xs i h) ∙ rw add-one

  pub symbols-on : i < length xs → get_or xs i 0 < q → symbols_from q es 0 xs ≡ symbols_from q es (i + 1) (drop (i + 1) xs)
  symbols-on h t = symbols-step h ∙ simp (lt-ltb _ _ t)

  pub symbols-erased : (b : Bool) → i < length xs → b ≡ list_any (λ x. eqb x i) es → b ≡ true → symbols_from q es 0 xs ≡ symbols_from q es (i + 1) (drop (i + 1) xs)
  symbols-erased b h m t = symbols-step h ∙ simp (← member-any i es, ← m, t, or-true)

  pub symbols-stop : (b : Bool) → i < length xs → q ≤ get_or xs i 0 → b ≡ list_any (λ x. eqb x i) es → b ≡ false → false ≡ symbols_from q es 0 xs
  symbols-stop b h t m f = sym (symbols-step h ∙ simp (le-ltb _ _ t, ← member-any i es, ← m, f))

pub symbols-run : (q : ℕ) (es xs : List ℕ) (i r : ℕ) → Run (λ p. get_or xs p 0 < q) i (length xs) r
    → symbols_from q es 0 xs ≡ symbols_from q es i (drop i xs) → symbols_from q es 0 xs ≡ symbols_from q es r (drop r xs)
symbols-run q es xs i r =
    run_on (λ p. symbols_from q es 0 xs ≡ symbols_from q es p (drop p xs)) (λ p. get_or xs p 0 < q) i (length xs) r
    (λ p h t e. symbols-on q es xs p e h t)
