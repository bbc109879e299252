-- Lanes: symbols in the bytes of one number, the first in the lowest. Assumes nothing.
use Rattle.std.specs.Prelude.{◌≡◌, List, [], ◌∷◌, ℕ, zero, suc, ◌+◌, ◌*◌, ◌/◌, ◌%◌, ◌^◌, ◌≤◌, ◌<◌}
use Rattle.field.specs.Field.{product, power, α}
use Rattle.field.specs.Sum.{at, sum}

-- the number whose byte j is f j, for j below n
unfoldable pub lanes : ℕ → (ℕ → ℕ) → ℕ
lanes zero f = 0
lanes (suc n) f = lanes n (λ j. f (suc j)) * 256 + f 0

-- each of the n first is below q
abbrev pub Below : ℕ → ℕ → (ℕ → ℕ) → Type 0
Below q n f = (j : ℕ) → j < n → f j < q

-- lane j of a number
abbrev pub lane : ℕ → ℕ → ℕ
lane a j = a / 256 ^ j % 256

-- r is a with the symbol of each lane times the power e of α, for up to eight lanes of width 7
abbrev pub Times : ℕ → ℕ → ℕ → Type 0
Times e a r = (n : ℕ) (f : ℕ → ℕ) → n ≤ 8 → Below 128 n f → a ≡ lanes n f → r ≡ lanes n (λ j. product 7 (power 7 α e) (f j))

-- f at 0 to 7: a number for each column of a row
abbrev pub eight : (ℕ → ℕ) → List ℕ
eight f = f 0 ∷ f 1 ∷ f 2 ∷ f 3 ∷ f 4 ∷ f 5 ∷ f 6 ∷ f 7 ∷ []

-- the eight symbols of a row, in lanes, times each of the first seven powers of α
abbrev pub Multiples : (ℕ → ℕ) → List ℕ → Type 0
Multiples f ms = (i : ℕ) → i < 7 → at ms i ≡ lanes 8 (λ j. product 7 (power 7 α i) (f j))

-- the sum of those of the seven numbers that the digits of k name
abbrev pub named : ℕ → List ℕ → ℕ
named k ms = sum 7 (λ i. at ms i * (k / 2 ^ i % 2))

-- the lanes of r are the n bytes of xs from place i on
pub record Block (n : ℕ) (xs : List ℕ) (i r : ℕ) : Type 0 where
  pub held : r ≡ lanes n (λ j. at xs (i + j))
  pub bytes : Below 256 n (λ j. at xs (i + j))
