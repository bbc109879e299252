-- The laws of a field of q = 2 ^ m symbols, as the layers above use them. The ring laws hold for all numbers, since a product reduces its
-- operands; the others speak of symbols. Demands.antt states that 3, 4, 5 and 7 are such widths. Assumes nothing.
use Rattle.std.specs.Prelude.{◌≡◌, ◌≢◌, ℕ, suc, ◌+◌, ◌-◌, ◌*◌, ◌<◌}
use Rattle.field.specs.Polynomial.{add}
use Rattle.field.specs.Field.{order, product, power, inverse, α}

-- an exponent below q-1 at which the power of α is a
pub record ExponentOf (m a : ℕ) : Type 0 where
  pub exponent : ℕ
  pub below : exponent < order m - 1
  pub is-power : power m α exponent ≡ a

-- cubing is one to one: a symbol is given back by its cube
abbrev pub CubeInjective : ℕ → Type 0
CubeInjective m = (a b : ℕ) → a < order m → b < order m → power m a 3 ≡ power m b 3 → a ≡ b

pub record IsField (m : ℕ) : Type 0 where
  pub positive : 0 < m
  pub one-lt : 1 < order m
  -- sum
  pub add-lt : (a b : ℕ) → a < order m → b < order m → add a b < order m
  pub add_comm : (a b : ℕ) → add a b ≡ add b a
  pub add_assoc : (a b c : ℕ) → add (add a b) c ≡ add a (add b c)
  pub add_left_comm : (a b c : ℕ) → add a (add b c) ≡ add b (add a c)
  pub add-zero : (a : ℕ) → add a 0 ≡ a
  pub zero-add : (a : ℕ) → add 0 a ≡ a
  pub add-self : (a : ℕ) → add a a ≡ 0
  pub eq-of-add : (a b : ℕ) → add a b ≡ 0 → a ≡ b
  -- product
  pub product_lt : (a b : ℕ) → product m a b < order m
  pub product-comm : (a b : ℕ) → product m a b ≡ product m b a
  pub product-assoc : (a b c : ℕ) → product m (product m a b) c ≡ product m a (product m b c)
  pub product-left-comm : (a b c : ℕ) → product m a (product m b c) ≡ product m b (product m a c)
  pub product-one : (a : ℕ) → a < order m → product m a 1 ≡ a
  pub one_product : (a : ℕ) → a < order m → product m 1 a ≡ a
  pub product-zero : (a : ℕ) → product m a 0 ≡ 0
  pub zero-product : (a : ℕ) → product m 0 a ≡ 0
  pub product-add : (a b c : ℕ) → product m a (add b c) ≡ add (product m a b) (product m a c)
  pub add-product : (a b c : ℕ) → product m (add a b) c ≡ add (product m a c) (product m b c)
  pub product-inverse : (a : ℕ) → a ≢ 0 → a < order m → product m a (inverse m a) ≡ 1
  pub inverse-lt : (a : ℕ) → inverse m a < order m
  pub no-zero-divisors : (a b : ℕ) → a ≢ 0 → a < order m → b < order m → product m a b ≡ 0 → b ≡ 0
  pub product-nonzero : (a b : ℕ) → a ≢ 0 → a < order m → b ≢ 0 → b < order m → product m a b ≢ 0
  pub product-cancel : (a b c : ℕ) → a ≢ 0 → a < order m → b < order m → c < order m → product m a b ≡ product m a c → b ≡ c
  pub square-injective : (a b : ℕ) → a < order m → b < order m → product m a a ≡ product m b b → a ≡ b
  -- powers
  pub power-lt : (a e : ℕ) → power m a e < order m
  pub power_zero : (a : ℕ) → power m a 0 ≡ 1
  pub power-suc : (a e : ℕ) → power m a (suc e) ≡ product m a (power m a e)
  pub power-one : (a : ℕ) → a < order m → power m a 1 ≡ a
  pub one_power : (e : ℕ) → power m 1 e ≡ 1
  pub zero-power : (e : ℕ) → power m 0 (suc e) ≡ 0
  pub power-add : (a i j : ℕ) → power m a (i + j) ≡ product m (power m a i) (power m a j)
  pub power-power : (a i j : ℕ) → power m (power m a i) j ≡ power m a (i * j)
  pub power-product : (a b e : ℕ) → power m (product m a b) e ≡ product m (power m a e) (power m b e)
  pub power-nonzero : (a e : ℕ) → a ≢ 0 → a < order m → power m a e ≢ 0
  pub power-cycle : (a : ℕ) → a ≢ 0 → a < order m → power m a (order m - 1) ≡ 1
  -- α
  pub α-lt : α < order m
  pub α-nonzero : (k : ℕ) → power m α k ≢ 0
  pub α-cycle : power m α (order m - 1) ≡ 1
  pub α-distinct : (i j : ℕ) → i < order m - 1 → j < order m - 1 → power m α i ≡ power m α j → i ≡ j
  pub α-generates : (a : ℕ) → a ≢ 0 → a < order m → ExponentOf m a
