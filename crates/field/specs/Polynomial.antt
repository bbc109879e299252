-- Polynomials over GF(2): the binary digits of a number are the coefficients, the lowest digit the constant. Assumes nothing.
use Rattle.std.specs.Prelude.{ℕ, zero, suc, ◌*◌, ◌/◌, ◌%◌}
use Rattle.std.specs.Int.Bits.{bit_xor}

-- sum: exclusive or
unfoldable pub add : ℕ → ℕ → ℕ
add a b = bit_xor a b

-- a recursion over the binary digits of a number, the highest first: f gets the number cut off after the digit that is next, and what
-- the digits above it gave. The first argument of `digits_from` bounds the number of digits.
module _ (f : ℕ → ℕ → ℕ) where
  unfoldable pub digits_from : ℕ → ℕ → ℕ
  digits_from zero n = zero
  digits_from (suc k) zero = zero
  digits_from (suc k) (suc n) = f (suc n) (digits_from k (suc n / 2))

  unfoldable pub digits : ℕ → ℕ
  digits n = digits_from n n

-- product, with no carry: the sum of b shifted to each digit of a. Two laws of proofs/Polynomial.antt say it without the bound, which so
-- need not be believed: `carryless-zero-l`, carryless 0 b ≡ 0, and `carryless-step`, carryless a b ≡ add (carryless (a / 2) b * 2) (a % 2 * b).
unfoldable pub carryless : ℕ → ℕ → ℕ
carryless a b = digits (λ n r. add (r * 2) (n % 2 * b)) a
