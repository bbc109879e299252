-- The laws of powers, at every width. Assumes nothing.
use Rattle.field.proofs.Base.{◌≡◌, refl, sym, ap, ◌∙◌, ℕ, zero, suc, ◌+◌, ◌*◌, ◌<◌, arith}
use native.Mathlib.Nat.{zero-add, suc-add, mul-zero, mul-suc}
use lib.Pow.{pow_mono}
use Rattle.field.proofs.Polynomial.{carryless-one-l, carryless-twice-l}
use Rattle.field.specs.Field.{order, double, remainder, product, power, α}
use Rattle.field.proofs.Ring.{product_lt, product-assoc, product-comm, product-one-l, product-one-r, product-zero-l, remainder-twice, remainder-same}

pub power_zero : (m a : ℕ) → power m a zero ≡ 1
unfolding power
power_zero m a = refl

pub power-suc : (m a e : ℕ) → power m a (suc e) ≡ product m a (power m a e)
unfolding power
power-suc m a e = refl

pub power-one : (m a : ℕ) → a < order m → power m a 1 ≡ a
unfolding power
power-one m a h = product-one-r m a h

-- of 0, the powers other than 0
pub zero-power : (m e : ℕ) → power m zero (suc e) ≡ zero
zero-power m e = power-suc m zero e ∙ product-zero-l m (power m zero e)

module _ (m : ℕ) (pos : 0 < m) where
  pub one-lt : 1 < order m
  one-lt = pow_mono pos

  pub one_power : (e : ℕ) → power m 1 e ≡ 1
  unfolding power
  one_power zero = refl
  one_power (suc e) = ap (product m 1) (one_power e) ∙ product-one-l m 1 one-lt

  pub power-lt : (a e : ℕ) → power m a e < order m
  unfolding power
  power-lt a zero = one-lt
  power-lt a (suc e) = product_lt m pos a (power m a e)

  pub power-add : (a i j : ℕ) → power m a (i + j) ≡ product m (power m a i) (power m a j)
  power-add a zero j =
      ap (power m a) (zero-add j) ∙ sym (product-one-l m (power m a j) (power-lt a j)) ∙ ap (λ (x : ℕ). product m x (power m a j)) (sym (power_zero m a))
  power-add a (suc i) j =
      ap (power m a) (suc-add i j) ∙ power-suc m a (i + j) ∙ ap (product m a) (power-add a i j)
      ∙ sym (product-assoc m pos a (power m a i) (power m a j)) ∙ ap (λ (x : ℕ). product m x (power m a j)) (sym (power-suc m a i))

  -- a power of a power
  pub power-power : (a i j : ℕ) → power m (power m a i) j ≡ power m a (i * j)
  power-power a i zero = power_zero m (power m a i) ∙ sym (power_zero m a) ∙ ap (power m a) (sym (mul-zero i))
  power-power a i (suc j) =
      power-suc m (power m a i) j ∙ ap (product m (power m a i)) (power-power a i j) ∙ sym (power-add a i (i * j))
      ∙ ap (power m a) (sums i (i * j) ∙ sym (mul-suc i j))
    where
      sums : (x y : ℕ) → x + y ≡ y + x
      sums x y = omega arith

  pub product-left-comm : (a b c : ℕ) → product m a (product m b c) ≡ product m b (product m a c)
  product-left-comm a b c = sym (product-assoc m pos a b c) ∙ ap (λ (x : ℕ). product m x c) (product-comm m a b) ∙ product-assoc m pos b a c

  -- a power of a product
  pub power-product : (a b e : ℕ) → power m (product m a b) e ≡ product m (power m a e) (power m b e)
  power-product a b zero = simp (power_zero, product-one-l m 1 one-lt)
  power-product a b (suc e) =
      power-suc m (product m a b) e ∙ ap (product m (product m a b)) (power-product a b e)
      ∙ simp (power-suc, product-assoc m pos, product-left-comm)

  -- times α
  pub double-product : (a : ℕ) → a < order m → double m a ≡ product m α a
  unfolding product
  double-product a h =
      sym (ap (remainder m) (carryless-twice-l 1 a ∙ ap (λ (x : ℕ). x * 2) (carryless-one-l a)) ∙ remainder-twice m pos a ∙ ap (double m) (remainder-same m a h))
