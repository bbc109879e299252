-- The sums by folds: numbers of a row are added at others' places, so that fewer are left and the sums stay. A number counts by its value
-- only, which is any map that takes sums to sums: so nothing here asks how many symbols a number holds. Assumes nothing.
use Rattle.std.specs.Prelude.{◌≡◌, List, [], ◌∷◌, ℕ, ◌*◌, ◌/◌, ◌%◌, ◌<◌}
use Rattle.field.specs.Polynomial.{add}
use Rattle.field.specs.Field.{product, power, α}
use Rattle.field.specs.Sum.{at, weighted}
use Rattle.field.specs.inner.Lanes.{lanes, Below}

-- takes sums to sums
abbrev pub Additive : (ℕ → ℕ) → Type 0
Additive v = (x y : ℕ) → v (add x y) ≡ add (v x) (v y)

-- gives symbols of width 7
abbrev pub SmallValues : (ℕ → ℕ) → Type 0
SmallValues v = (x : ℕ) → v x < 128

-- the sum of the powers of α^d whose exponents are listed
unfoldable pub powers : ℕ → List ℕ → ℕ
powers d [] = 0
powers d (b ∷ bs) = add (powers d bs) (power 7 α (d * b))

-- y^n is the sum of the powers of y at the places of bs, where y is α^d
abbrev pub Obeys : ℕ → List ℕ → ℕ → Type 0
Obeys n bs d = power 7 α (d * n) ≡ powers d bs

-- y^7 = y^3 + 1
abbrev pub Seventh : ℕ → Type 0
Seventh = Obeys 7 (3 ∷ 0 ∷ [])

-- y^8 = y^7 + y^4 + 1
abbrev pub Eighth : ℕ → Type 0
Eighth = Obeys 8 (7 ∷ 4 ∷ 0 ∷ [])

-- the weighted sum of the values of the first n numbers, the steps by α^d
abbrev pub value_total : (ℕ → ℕ) → ℕ → ℕ → List ℕ → ℕ
value_total v d n ws = weighted 7 n (λ i. v (at ws i)) d

-- the value of a number whose halves, below p and above, have values by v
abbrev pub half : ℕ → ℕ → (ℕ → ℕ) → ℕ → ℕ
half p d v x = add (v (x % p)) (product 7 (power 7 α d) (v (x / p)))

-- the values of a number that holds one, two, four, eight symbols in its bytes: their sum at exponent e
abbrev pub single : ℕ → ℕ
single x = x % 128

abbrev pub pair : ℕ → ℕ → ℕ
pair e = half 256 e single

abbrev pub quad : ℕ → ℕ → ℕ
quad e = half 65536 (2 * e) (pair e)

abbrev pub octet : ℕ → ℕ → ℕ
octet e = half 4294967296 (4 * e) (quad e)

-- the sixteen numbers ws are folded into the first eight of us, by a relation
abbrev pub Folded : (ℕ → Type 0) → List ℕ → List ℕ → Type 0
Folded R ws us = (v : ℕ → ℕ) (d : ℕ) → Additive v → R d → value_total v d 8 us ≡ value_total v d 16 ws

-- the first eight numbers of ws are cut into the sixteen us, at p
abbrev pub Halved : ℕ → List ℕ → List ℕ → Type 0
Halved p ws us = (v : ℕ → ℕ) (d : ℕ) → SmallValues v → value_total v d 16 us ≡ value_total (half p d v) (2 * d) 8 ws

-- the sixteen numbers ws of eight symbols are folded into the eight symbols that a holds, by a relation
pub record Packed (R : ℕ → Type 0) (ws : List ℕ) (a : ℕ) : Type 0 where
  pub symbols : ℕ → ℕ
  pub below : Below 128 8 symbols
  pub held : a ≡ lanes 8 symbols
  pub same : (e : ℕ) → R (8 * e) → R (4 * e) → R (2 * e) → R e → weighted 7 8 symbols e ≡ value_total (octet e) (8 * e) 16 ws
