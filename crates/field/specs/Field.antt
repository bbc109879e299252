-- The field of q = 2 ^ m symbols, m its width: the numbers below q, with sum (`add` of Polynomial.antt), product, power and inverse.
-- Assumes nothing.
use Rattle.std.specs.Prelude.{cond, ℕ, zero, suc, ◌-◌, ◌*◌, ◌%◌, ◌^◌, ltb, eqb}
use Rattle.field.specs.Polynomial.{add, carryless, digits}

-- q, the number of symbols
abbrev pub order : ℕ → ℕ
order m = 2 ^ m

-- the polynomial of the width: x³+x+1, x⁴+x+1, x⁵+x²+1, x⁷+x³+1. No other width is used; x^m stands there
unfoldable pub polynomial : ℕ → ℕ
polynomial m = cond (eqb m 3) 11 (cond (eqb m 4) 19 (cond (eqb m 5) 37 (cond (eqb m 7) 137 (2 ^ m))))

-- a polynomial of degree at most m, with the width's polynomial taken away where the degree is m
unfoldable pub reduce : ℕ → ℕ → ℕ
reduce m x = cond (ltb x (order m)) x (add x (polynomial m))

-- a symbol times α, which is the polynomial x
unfoldable pub double : ℕ → ℕ → ℕ
double m a = reduce m (a * 2)

-- the remainder modulo the width's polynomial, by long division: the coefficients are brought down one by one, the highest first.
-- That this is the remainder is proved in proofs/Ring.antt: `division` and `remainder-unique`.
unfoldable pub remainder : ℕ → ℕ → ℕ
remainder m c = digits (λ n r. add (double m r) (n % 2)) c

-- product: that of the polynomials, modulo the width's polynomial
unfoldable pub product : ℕ → ℕ → ℕ → ℕ
product m a b = remainder m (carryless a b)

-- power: the power 0 is 1, also of the symbol 0
unfoldable pub power : ℕ → ℕ → ℕ → ℕ
power m a zero = 1
power m a (suc e) = product m a (power m a e)

-- α, the symbol that generates all symbols other than 0
abbrev pub α : ℕ
α = 2

-- inverse: the power q-2
unfoldable pub inverse : ℕ → ℕ → ℕ
inverse m a = power m a (order m - 2)
