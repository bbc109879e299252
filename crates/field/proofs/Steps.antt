-- One step of the loops of product and power, at every width. Assumes nothing.
use Rattle.field.proofs.Base.{◌≡◌, refl, sym, ap, ap₂, ◌∙◌, Bool, true, cond, ◌≢◌, ℕ, zero, suc, ◌+◌, ◌-◌, ◌*◌, ◌/◌, ◌%◌, ◌≤◌, ◌<◌, zero-mul}
use Rattle.field.proofs.Base.{mod-eq_of_lt, arith, lt-ltb, le-ltb}
use mathlib.Core.Path.{subst₂}
use native.Mathlib.Nat.{one-mul, div-add-mod', mul_comm}
use lib.Pow.{pow_pos}
use Rattle.field.specs.Polynomial.{add, carryless}
use Rattle.field.proofs.Polynomial.{add_comm, add_assoc, add_zero_r, carryless-step, carryless-twice-r, Digit, Digit.off, Digit.on, digit}
use Rattle.field.specs.Field.{order, polynomial, reduce, double, remainder, product, power, inverse, α}
use Rattle.field.specs.Question.{is_width}
use Rattle.field.proofs.Widths.{order_small}
use Rattle.field.proofs.Laws.{IsField}
use Rattle.field.proofs.Ring.{remainder-add, remainder-twice, remainder-same, remainder-carryless-r, product-assoc, product-comm, product-one-r, product-zero-l}
use Rattle.field.proofs.Powers.{power_zero, power-suc, power-one, zero-power, power-lt, power-add, power-power}

-- a doubling in the code: a % 128 is a, since no symbol is as large as 128
module _ (m q a : ℕ) (w : is_width m ≡ true) (eq : q ≡ order m) where
  symbol-mod : a < q → a % 128 * 2 ≡ a * 2
  symbol-mod h =
      let l : a < 128 = omega (arith, order_small m w) in
      ap (λ (x : ℕ). x * 2) (mod-eq_of_lt l)

  pub double-low : a < q → a % 128 * 2 < q → a % 128 * 2 ≡ double m a
  unfolding double reduce
  double-low h l =
      symbol-mod h ∙ sym (ap (λ (b : Bool). cond b (a * 2) (add (a * 2) (polynomial m))) (lt-ltb (a * 2) (order m) (subst₂ ◌<◌ (symbol-mod h) eq l)))

  pub double-high : (p : ℕ) → p ≡ polynomial m → a < q → q ≤ a % 128 * 2 → add (a % 128 * 2) p ≡ double m a
  unfolding double reduce
  double-high p ep h l =
      ap₂ add (symbol-mod h) ep
      ∙ sym (ap (λ (b : Bool). cond b (a * 2) (add (a * 2) (polynomial m))) (le-ltb (a * 2) (order m) (subst₂ ◌≤◌ eq (symbol-mod h) l)))

module _ (m : ℕ) (pos : 0 < m) where
  digit_lt : {d : ℕ} (x : ℕ) → x < order m → Digit d → d * x < order m
  digit_lt x h off = rw zero-mul (pow_pos m)
  digit_lt x h on = rw one-mul h

  -- the lowest digit of a factor
  product-halve : (y x : ℕ) → x < order m → product m y x ≡ add (product m (y / 2) (double m x)) (y % 2 * x)
  unfolding product
  product-halve y x h =
      ap (remainder m) (carryless-step y x)
      ∙ remainder-add m pos (carryless (y / 2) x * 2) (y % 2 * x)
      ∙ ap₂ add
      (ap (remainder m) (sym (carryless-twice-r (y / 2) x)) ∙ sym (remainder-carryless-r m pos (y / 2) (x * 2))
      ∙ ap (λ (z : ℕ). remainder m (carryless (y / 2) z)) (remainder-twice m pos x ∙ ap (double m) (remainder-same m x h)))
      (remainder-same m (y % 2 * x) (digit_lt x h (digit y)))

  pub product-odd : (r y x t : ℕ) → x < order m → y % 2 ≡ 1 → add r (product m y x) ≡ t → add (add r x) (product m (y / 2) (double m x)) ≡ t
  product-odd r y x t h o e =
      add_assoc r x (product m (y / 2) (double m x))
      ∙ ap (add r) (add_comm x (product m (y / 2) (double m x)) ∙ sym (product-halve y x h ∙ ap (λ (d : ℕ). add (product m (y / 2) (double m x)) (d * x)) o ∙ ap (add (product m (y / 2) (double m x))) (one-mul x)))
      ∙ e

  pub product-even : (r y x t : ℕ) → x < order m → y % 2 ≡ 0 → add r (product m y x) ≡ t → add r (product m (y / 2) (double m x)) ≡ t
  product-even r y x t h o e =
      ap (add r) (sym (product-halve y x h ∙ ap (λ (d : ℕ). add (product m (y / 2) (double m x)) (d * x)) o ∙ ap (add (product m (y / 2) (double m x))) (zero-mul x) ∙ add_zero_r (product m (y / 2) (double m x))))
      ∙ e

  pub product-end : (r y x t : ℕ) → y ≡ 0 → add r (product m y x) ≡ t → r ≡ t
  product-end r y x t z e = sym (add_zero_r r) ∙ ap (add r) (sym (ap (λ (k : ℕ). product m k x) z ∙ product-zero-l m x)) ∙ e

  -- the lowest digit of an exponent
  power-halve : (x n : ℕ) → x < order m → power m x n ≡ product m (power m (product m x x) (n / 2)) (power m x (n % 2))
  power-halve x n h =
      ap (power m x) (sym (div-add-mod' n 2)) ∙ power-add m pos x (n / 2 * 2) (n % 2)
      ∙ ap (λ (z : ℕ). product m z (power m x (n % 2)))
      (ap (power m x) (mul_comm (n / 2) 2) ∙ sym (power-power m pos x 2 (n / 2)) ∙ ap (λ (z : ℕ). power m z (n / 2)) square)
    where
      square : power m x 2 ≡ product m x x
      square = power-suc m x 1 ∙ ap (product m x) (power-one m x h)

  pub power-odd : (r x n t : ℕ) → x < order m → n % 2 ≡ 1 → product m r (power m x n) ≡ t → product m (product m r x) (power m (product m x x) (n / 2)) ≡ t
  power-odd r x n t h o e =
      product-assoc m pos r x (power m (product m x x) (n / 2))
      ∙ ap (product m r) (product-comm m x (power m (product m x x) (n / 2)) ∙ sym (power-halve x n h ∙ ap (λ (d : ℕ). product m (power m (product m x x) (n / 2)) (power m x d)) o ∙ ap (product m (power m (product m x x) (n / 2))) (power-one m x h)))
      ∙ e

  pub power-even : (r x n t : ℕ) → x < order m → n % 2 ≡ 0 → product m r (power m x n) ≡ t → product m r (power m (product m x x) (n / 2)) ≡ t
  power-even r x n t h o e =
      ap (product m r) (sym (power-halve x n h ∙ ap (λ (d : ℕ). product m (power m (product m x x) (n / 2)) (power m x d)) o
      ∙ ap (product m (power m (product m x x) (n / 2))) (power_zero m x) ∙ product-one-r m (power m (product m x x) (n / 2)) (power-lt m pos (product m x x) (n / 2))))
      ∙ e

  pub power-end : (r x n t : ℕ) → r < order m → n ≡ 0 → product m r (power m x n) ≡ t → r ≡ t
  power-end r x n t h z e =
      sym (product-one-r m r h) ∙ ap (product m r) (sym (ap (power m x) z ∙ power_zero m x)) ∙ e

-- a product by exponents of α
pub product-exponents : (m : ℕ) → IsField m → (a b i j : ℕ) → power m α i ≡ a → power m α j ≡ b → power m α (i + j) ≡ product m a b
product-exponents m F a b i j ea eb = F.power-add α i j ∙ ap₂ (product m) ea eb

-- an exponent of α counts modulo q-1
pub power-mod : (m : ℕ) → IsField m → (k : ℕ) → power m α (k % (order m - 1)) ≡ power m α k
power-mod m F k =
    let u = order m - 1 in
    sym (ap (power m α) (sym (div-add-mod' k u))
    ∙ F.power-add α (k / u * u) (k % u)
    ∙ ap (λ (x : ℕ). product m x (power m α (k % u)))
    (ap (power m α) (mul_comm (k / u) u) ∙ sym (F.power-power α u (k / u)) ∙ ap (λ (x : ℕ). power m x (k / u)) F.α-cycle ∙ F.one_power (k / u))
    ∙ F.one_product (power m α (k % u)) (F.power-lt α (k % u)))

-- a quotient by exponents of α
pub ratio-exponents : (m : ℕ) → IsField m → (a b i j : ℕ) → i ≤ order m - 1 → power m α i ≡ a → power m α j ≡ b
    → product m (power m α ((j + (order m - 1) - i) % (order m - 1))) a ≡ b
ratio-exponents m F a b i j h ea eb =
    let u = order m - 1 in
    ap (λ (x : ℕ). product m x a) (power-mod m F (j + u - i))
    ∙ sym (product-exponents m F (power m α (j + u - i)) a (j + u - i) i refl ea)
    ∙ ap (power m α) (whole j u h)
    ∙ F.power-add α j u
    ∙ ap (product m (power m α j)) F.α-cycle
    ∙ F.product-one (power m α j) (F.power-lt α j)
    ∙ eb
  where
    whole : (j u : ℕ) → i ≤ u → j + u - i + i ≡ j + u
    whole j u h = omega arith

-- a power by the exponent of α
pub power-exponent : (m : ℕ) → IsField m → (a e i : ℕ) → power m α i ≡ a → power m α (i * e % (order m - 1)) ≡ power m a e
power-exponent m F a e i ea =
    power-mod m F (i * e) ∙ sym (F.power-power α i e) ∙ ap (λ (x : ℕ). power m x e) ea

pub zero-power-ne : (m e : ℕ) → e ≢ 0 → power m 0 e ≡ 0
zero-power-ne m zero n = absurd (n refl)
zero-power-ne m (suc e) n = zero-power m e

-- the inverse by the exponent of α: the two exponents make q-1
pub inverse-exponent : (m : ℕ) → IsField m → (a i : ℕ) → a < order m → i ≤ order m - 1 → power m α i ≡ a
    → power m α (order m - 1 - i) ≡ inverse m a
inverse-exponent m F a i l h e =
    F.product-cancel a (power m α (order m - 1 - i)) (inverse m a) n l (F.power-lt α (order m - 1 - i)) (F.inverse-lt a)
    (sym (product-exponents m F a (power m α (order m - 1 - i)) i (order m - 1 - i) e refl)
    ∙ ap (power m α) (whole i (order m - 1) h)
    ∙ F.α-cycle
    ∙ sym (F.product-inverse a n l))
  where
    n : a ≢ 0
    n z = F.α-nonzero i (e ∙ z)

    whole : (x y : ℕ) → x ≤ y → x + (y - x) ≡ y
    whole x y h = omega arith
