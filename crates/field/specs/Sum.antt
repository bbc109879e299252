-- Weighted sums of symbols. m is the width; a row of symbols is a function from numbers to symbols, and a list is one as `at`.
-- Assumes nothing.
use Rattle.std.specs.Prelude.{List, [], ◌∷◌, ℕ, zero, suc, ◌*◌, get_or}
use Rattle.field.specs.Polynomial.{add}
use Rattle.field.specs.Field.{product, power, α}

-- the symbol at place p of the word w
abbrev pub at : List ℕ → ℕ → ℕ
at w p = get_or w p 0

-- the field sum of f 0 to f (n - 1)
unfoldable pub sum : ℕ → (ℕ → ℕ) → ℕ
sum zero f = 0
sum (suc n) f = add (sum n f) (f n)

-- f at 0 to 4: a number for each syndrome
abbrev pub five : (ℕ → ℕ) → List ℕ
five f = f 0 ∷ f 1 ∷ f 2 ∷ f 3 ∷ f 4 ∷ []

-- the field sum over i below n of α^(k·i) times c_i
abbrev pub weighted : ℕ → ℕ → (ℕ → ℕ) → ℕ → ℕ
weighted m n c k = sum n (λ i. product m (power m α (k * i)) (c i))
