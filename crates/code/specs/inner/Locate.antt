-- The wrong places of a word without erasures, by tests on its five syndromes s: what each test says, and the places that it names.
-- Assumes nothing.
use Rattle.std.specs.Prelude.{◌≡◌, ◌≢◌, true, false, cond, List, [], ◌∷◌, map, ℕ, zero, suc, ◌-◌, ◌≤◌, ◌<◌, eqb, length, get_or, take}
use Rattle.field.specs.Polynomial.{add}
use Rattle.field.specs.Field.{order, product, power, inverse, α}
use Rattle.field.specs.Question.{all_below}
use Rattle.code.specs.declared.erasures.Correction.{Correction}
use Rattle.code.specs.declared.errors.FirstTwo.{FirstTwo}
use Rattle.code.specs.declared.errors.Pair.{Pair}
use Rattle.code.specs.Word.{checks, places, at}
use Rattle.code.specs.inner.Place.{column}
use Rattle.code.specs.Erasure.{member}
use Rattle.code.specs.inner.Correction.{corrected_places}

-- ---- one data place

-- the syndromes inside ls are not 0, those outside are
pub record Zeros (s : ℕ → ℕ) (ls : List ℕ) : Type 0 where
  pub outside : (k : ℕ) → k < checks → member k ls ≡ false → s k ≡ 0
  pub inside : (k : ℕ) → k < checks → member k ls ≡ true → s k ≢ 0

-- the point of the data place p
abbrev pub point : ℕ → ℕ → ℕ
point m p = power m α (p - checks)

-- the value at the data place p that makes syndrome a
abbrev pub value_from : ℕ → (ℕ → ℕ) → ℕ → ℕ → ℕ
value_from m s a p = product m (s a) (inverse m (column m p a))

-- the syndromes without the value y at place p
abbrev pub without : ℕ → (ℕ → ℕ) → ℕ → ℕ → ℕ → ℕ
without m s p y k = add (s k) (product m (column m p k) y)

-- the syndromes a and a + 1 have the ratio of the data place p, and without its value just those at the check places js are not 0
pub record Ratio (m : ℕ) (s : ℕ → ℕ) (a p : ℕ) (js : List ℕ) : Type 0 where
  pub first : s a ≢ 0
  pub small : s a < order m
  pub multiple : s (suc a) ≡ product m (point m p) (s a)
  pub rest : Zeros (without m s p (value_from m s a p)) js

-- the ratio names no data place with fewer check places beside it than r
abbrev pub NoRatio : ℕ → (ℕ → ℕ) → ℕ → ℕ → Type 0
NoRatio m s r a = (p : ℕ) (js : List ℕ) → checks ≤ p → p < places m → all_below checks js ≡ true → Ratio m s a p js → length js < r → ⊥

-- ---- two data places

-- the syndromes are those of the values u and v at the places p and q
pub record TwoErrors (m : ℕ) (s : ℕ → ℕ) (p q u v : ℕ) : Type 0 where
  pub rows : (k : ℕ) → k < checks → s k ≡ add (product m (column m p k) u) (product m (column m q k) v)
  pub small : (u < order m) × (v < order m)
  pub nonzero : (u ≢ 0) × (v ≢ 0)

-- there are no such values
abbrev pub NoPair : ℕ → (ℕ → ℕ) → ℕ → ℕ → Type 0
NoPair m s p q = (u v : ℕ) → TwoErrors m s p q u v → ⊥

-- nor at any two data places
abbrev pub NoPairs : ℕ → (ℕ → ℕ) → Type 0
NoPairs m s = (p q : ℕ) → checks ≤ q → q < p → p < places m → NoPair m s p q

-- r are the only values that come into question
pub record PairValues (m : ℕ) (s : ℕ → ℕ) (p q : ℕ) (r : Pair) : Type 0 where
  pub small : (r.first < order m) × (r.second < order m)
  pub only : (u v : ℕ) → TwoErrors m s p q u v → (r.first ≡ u) × (r.second ≡ v)

-- ---- places found, and the correction there

-- the places below n at which f is not 0, the highest first
unfoldable pub full : ℕ → (ℕ → ℕ) → List ℕ
full zero f = []
full (suc n) f = cond (eqb (f n) 0) (full n f) (n ∷ full n f)

-- f is the list of places ls, of which it keeps the first two
pub record Lists (f : FirstTwo) (ls : List ℕ) : Type 0 where
  pub count : f.count ≡ length ls
  pub first : f.first.0 ≡ get_or ls 0 0
  pub second : f.second.0 ≡ get_or ls 1 0

-- c has the places ls, and adds e there
pub record AddsAt (w ls : List ℕ) (e : ℕ → ℕ) (c : Correction) : Type 0 where
  pub count : c.count ≡ length ls
  pub places : corrected_places c ≡ ls
  pub values : take c.count c.values ≡ map (λ p. add (at w p) (e p)) ls
