-- Arithmetic on bytes below the questions: what it gives on every byte, symbol or not. Each byte stands for a width and for a symbol there,
-- a width and a symbol for themselves (proofs/Bytes.antt). Assumes nothing.
use Rattle.std.specs.Prelude.{cond, List, ℕ, ◌%◌, ◌≤◌, eqb, length}
use Rattle.field.specs.Field.{order, product, power, inverse, α}
use Rattle.field.specs.Question.{is_width}
use Rattle.field.specs.Sum.{at, five, weighted}

-- the width itself, and 7 where it is none of the field's
unfoldable pub width_for : ℕ → ℕ
width_for m = cond (is_width m) m 7

-- the symbol that a byte stands for: its lowest digits, as many as the width
unfoldable pub symbol_for : ℕ → ℕ → ℕ
symbol_for m a = a % order (width_for m)

unfoldable pub multiplied : ℕ → ℕ → ℕ → ℕ
multiplied m a b = product (width_for m) (symbol_for m a) (symbol_for m b)

unfoldable pub raised : ℕ → ℕ → ℕ → ℕ
raised m a e = power (width_for m) (symbol_for m a) e

unfoldable pub inverted : ℕ → ℕ → ℕ
inverted m a = inverse (width_for m) (symbol_for m a)

-- times the power k of α
unfoldable pub shifted : ℕ → ℕ → ℕ → ℕ
shifted m a k = product (width_for m) (power (width_for m) α k) (symbol_for m a)

-- the five weighted sums of any bytes: those of the symbols that they stand for, at the width that the byte m stands for
unfoldable pub sums_for : ℕ → List ℕ → List ℕ
sums_for m xs = five (weighted (width_for m) (length xs) (λ i. symbol_for m (at xs i)))

-- the symbol other than 0 that a byte stands for at width 7: its own, and 1 where that is 0
unfoldable pub unit_for : ℕ → ℕ
unit_for a = cond (eqb (a % 128) 0) 1 (a % 128)

-- the widths without tables: 3, 4 and 5
abbrev pub Small : ℕ → Type 0
Small m = (3 ≤ m) × (m ≤ 5)
