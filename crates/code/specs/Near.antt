-- The codewords near a word, and its restoration. The lists here are far too long to be computed; they say what is meant, and the proofs
-- reason about them. Nobody has to believe the lists: `NeverTwo`, `Accepts`, `RefusesSeven` and `RefusedUnchanged` of Demands.antt say what
-- the restorer does, on every input, without them. Assumes nothing.
use Rattle.std.specs.Prelude.{◌≡◌, Bool, cond, List, [], ◌∷◌, ◌++◌, map, ℕ, zero, suc, ◌+◌, ◌-◌, ◌/◌, ◌%◌, ◌≤◌, ◌<◌, leb}
use Rattle.field.specs.Field.{order}
use Rattle.code.specs.Word.{checks, places, items, syndrome, Codeword, encode}
use Rattle.code.specs.Erasure.{total, changes}

-- the code's distance: two codewords differ at five places or more at an odd width, at four or more at an even one
abbrev pub distance : ℕ → ℕ
distance m = 4 + m % 2

-- 1 where the number is not 0
abbrev pub nonzero : ℕ → ℕ
nonzero zero = 0
nonzero (suc n) = 1

-- the code's distance is at least d: a word with zero syndromes and fewer than d nonzero symbols is zero
abbrev pub Distance : ℕ → ℕ → Type 0
Distance m d =
    (e : ℕ → ℕ) → ((p : ℕ) → p < places m → e p < order m) → ((k : ℕ) → k < checks → syndrome m e k ≡ 0)
    → total (places m) (λ p. nonzero (e p)) < d → (p : ℕ) → p < places m → e p ≡ 0

-- the radius r, the number of silent wrong symbols that are restored beside s erasures: at an odd width 2, 1, 1, 0, 0, 0 for s from 0 to 5,
-- at an even one 1, 1, 0, 0 for s from 0 to 3
abbrev pub radius : ℕ → ℕ → ℕ
radius m s = (distance m - 1 - s) / 2

-- each list of xss, with each number below q in front
unfoldable pub prefixed : ℕ → List (List ℕ) → List (List ℕ)
prefixed zero xss = []
prefixed (suc q) xss = map (λ xs. q ∷ xs) xss ++ prefixed q xss

-- every list of n numbers below q, each once
unfoldable pub tuples : ℕ → ℕ → List (List ℕ)
tuples q zero = [] ∷ []
tuples q (suc n) = prefixed q (tuples q n)

-- every codeword of the width, each once: the encoder's words for all data
unfoldable pub codewords : ℕ → List (List ℕ)
codewords m = map (encode m) (tuples (order m) (items m))

-- the lists that pass the test, in their order
unfoldable pub keep : (List ℕ → Bool) → List (List ℕ) → List (List ℕ)
keep f [] = []
keep f (x ∷ xs) = cond (f x) (x ∷ keep f xs) (keep f xs)

-- c is near w: a codeword that differs from w, outside the erasures, at no more than r places
pub record Near (m : ℕ) (es w : List ℕ) (r : ℕ) (c : List ℕ) : Type 0 where
  pub codeword : Codeword m c
  pub few : changes m es w c ≤ r

-- the near codewords
unfoldable pub nearby : ℕ → List ℕ → List ℕ → ℕ → List (List ℕ)
nearby m es w r = keep (λ c. leb (changes m es w c) r) (codewords m)

-- what restoring finds: no near codeword, just one, or more
pub data Restoration : Type 0 where
  none : Restoration
  one : List ℕ → Restoration
  several : Restoration

-- in a list of codewords
abbrev pub found : List (List ℕ) → Restoration
found [] = none
found (c ∷ []) = one c
found (c ∷ d ∷ cs) = several

-- of the word w with the erasures es, within r places
unfoldable pub restoration : ℕ → List ℕ → List ℕ → ℕ → Restoration
restoration m es w r = found (nearby m es w r)
