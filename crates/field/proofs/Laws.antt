-- The laws of the field (`IsField` of specs/Laws.antt), proved at every width at which α generates the symbols other than 0.
-- Assumes nothing.
use Rattle.field.proofs.Base.{◌≡◌, refl, sym, ap, ap₂, ◌∙◌, ◌≢◌, ℕ, zero, suc, ◌+◌, ◌-◌, ◌*◌, ◌/◌, ◌%◌, ◌≤◌, ◌<◌, dec_lt, ℕ_discrete}
use Rattle.field.proofs.Base.{arith}
use native.Mathlib.Nat.{mul_comm, pow-suc}
use lib.Pow.{pow_mono}
use Rattle.field.specs.Polynomial.{add}
use Rattle.field.proofs.Polynomial.{add_comm, add_assoc, add_left_comm, add_zero_l, add_zero_r, add-self, add-lt, add-cancel, eq-of-add}
use Rattle.field.specs.Field.{order, product, power, inverse, α}
pub use Rattle.field.specs.Laws.{ExponentOf, CubeInjective, IsField}
use Rattle.field.proofs.Ring.{product_lt, product-comm, product-assoc, product-one-l, product-one-r, product-zero-l, product-zero-r, product-add-l, product-add-r}
use Rattle.field.proofs.Powers.{one-lt, power_zero, power-suc, power-one, zero-power, one_power, power-lt, power-add, power-power, power-product, product-left-comm}

-- what is computed at each width: α generates the symbols other than 0, and q-1 is the least power, other than 0, that is 1
pub record Generates (m : ℕ) : Type 0 where
  pub wide : 1 < m
  pub cycle : power m α (order m - 1) ≡ 1
  pub least : (k : ℕ) → 0 < k → k < order m - 1 → power m α k ≢ 1
  pub exponent : (a : ℕ) → a ≢ 0 → a < order m → ExponentOf m a

-- at an odd width q is 2 more than this many times 3
thirds : ℕ → ℕ
thirds zero = 0
thirds (suc j) = thirds j * 4 + 2

odd-order : (j : ℕ) → order (suc (j * 2)) ≡ thirds j * 3 + 2
unfolding thirds
odd-order zero = refl
odd-order (suc j) =
    let n = suc (j * 2) in
    let e : suc (suc j * 2) ≡ suc (suc n) = omega arith in
    ap order e ∙ omega (arith, pow-suc 2 (suc n), pow-suc 2 n, odd-order j)

module _ (m : ℕ) (g : Generates m) where
  positive : 0 < m
  positive = omega (arith, g.wide)

  -- Fermat
  cycle : (a : ℕ) → a ≢ 0 → a < order m → power m a (order m - 1) ≡ 1
  cycle a n h =
      let k = (g.exponent a n h).exponent in
      ap (λ (x : ℕ). power m x (order m - 1)) (sym (g.exponent a n h).is-power)
      ∙ power-power m positive α k (order m - 1)
      ∙ ap (power m α) (mul_comm k (order m - 1))
      ∙ sym (power-power m positive α (order m - 1) k)
      ∙ ap (λ (x : ℕ). power m x k) g.cycle
      ∙ one_power m positive k

  inverts : (a : ℕ) → a ≢ 0 → a < order m → product m a (inverse m a) ≡ 1
  unfolding inverse
  inverts a n h =
      let two : 2 ≤ order m = one-lt m positive in
      let e : suc (order m - 2) ≡ order m - 1 = omega arith in
      sym (power-suc m a (order m - 2)) ∙ ap (power m a) e ∙ cycle a n h

  cancel : (a b c : ℕ) → a ≢ 0 → a < order m → b < order m → c < order m → product m a b ≡ product m a c → b ≡ c
  cancel a b c n h hb hc e = sym (undo b hb) ∙ ap (product m (inverse m a)) e ∙ undo c hc
    where
      undo : (x : ℕ) → x < order m → product m (inverse m a) (product m a x) ≡ x
      undo x l =
          sym (product-assoc m positive (inverse m a) a x)
          ∙ ap (λ (y : ℕ). product m y x) (product-comm m (inverse m a) a ∙ inverts a n h)
          ∙ product-one-l m x l

  divisors : (a b : ℕ) → a ≢ 0 → a < order m → b < order m → product m a b ≡ 0 → b ≡ 0
  divisors a b n h l e =
      let z : 0 < order m = omega (arith, one-lt m positive) in
      cancel a b 0 n h l z (e ∙ sym (product-zero-r m a))

  power-not : (a e : ℕ) → a ≢ 0 → a < order m → power m a e ≢ 0
  power-not a zero n h = λ e. (let f : ◌≡◌ {A = ℕ} 1 0 = sym (power_zero m a) ∙ e in omega arith)
  power-not a (suc i) n h = λ e. power-not a i n h (divisors a (power m a i) n h (power-lt m positive a i) (sym (power-suc m a i) ∙ e))

  α-lt : α < order m
  α-lt = let h : 4 ≤ order m = pow_mono g.wide in omega arith

  α-not : (k : ℕ) → power m α k ≢ 0
  α-not k = power-not α k (omega arith) α-lt

  -- the square of a sum is the sum of the squares
  square-add : (a b : ℕ) → product m (add a b) (add a b) ≡ add (product m a a) (product m b b)
  square-add a b =
      product-add-l m positive a b (add a b)
      ∙ ap₂ add (product-add-r m positive a a b) (product-add-r m positive b a b ∙ ap (λ (x : ℕ). add x (product m b b)) (product-comm m b a))
      ∙ add_assoc (product m a a) (product m a b) (add (product m a b) (product m b b))
      ∙ ap (add (product m a a)) (add-cancel (product m a b) (product m b b))

  squares : (a b : ℕ) → a < order m → b < order m → product m a a ≡ product m b b → a ≡ b
  squares a b h l e = eq-of-add a b (go (ℕ_discrete (add a b) 0))
    where
      zero-square : product m (add a b) (add a b) ≡ 0
      zero-square = square-add a b ∙ ap (λ (x : ℕ). add x (product m b b)) e ∙ add-self (product m b b)

      go : Dec (add a b ≡ 0) → add a b ≡ 0
      go (yes z) = z
      go (no n) = divisors (add a b) (add a b) n (add-lt m a b h l) (add-lt m a b h l) zero-square

  distinct-lt : (i j : ℕ) → i < j → j < order m - 1 → power m α i ≡ power m α j → ⊥
  distinct-lt i j h l e =
      g.least (j - i) (omega arith) (omega arith)
      (sym (cancel (power m α i) 1 (power m α (j - i)) (α-not i) (power-lt m positive α i) (one-lt m positive) (power-lt m positive α (j - i))
      (product-one-r m (power m α i) (power-lt m positive α i) ∙ e ∙ ap (power m α) rest ∙ power-add m positive α i (j - i))))
    where
      rest : j ≡ i + (j - i)
      rest = omega arith

  distinct : (i j : ℕ) → i < order m - 1 → j < order m - 1 → power m α i ≡ power m α j → i ≡ j
  distinct i j h l e = go (dec_lt i j) (dec_lt j i)
    where
      go : Dec (i < j) → Dec (j < i) → i ≡ j
      go (yes p) d = absurd (distinct-lt i j p l e)
      go (no p) (yes r) = absurd (distinct-lt j i r h (sym e))
      go (no p) (no r) = omega arith

  inverse-below : (a : ℕ) → inverse m a < order m
  unfolding inverse
  inverse-below a = power-lt m positive a (order m - 2)

  pub is_field : IsField m
  is_field =
      record {
        positive = positive;
        one-lt = one-lt m positive;
        add-lt = add-lt m;
        add_comm = add_comm;
        add_assoc = add_assoc;
        add_left_comm = add_left_comm;
        add-zero = add_zero_r;
        zero-add = add_zero_l;
        add-self = add-self;
        eq-of-add = eq-of-add;
        product_lt = product_lt m positive;
        product-comm = product-comm m;
        product-assoc = product-assoc m positive;
        product-left-comm = product-left-comm m positive;
        product-one = product-one-r m;
        one_product = product-one-l m;
        product-zero = product-zero-r m;
        zero-product = product-zero-l m;
        product-add = product-add-r m positive;
        add-product = product-add-l m positive;
        product-inverse = inverts;
        inverse-lt = inverse-below;
        no-zero-divisors = divisors;
        product-nonzero = λ a b n h k l e. k (divisors a b n h l e);
        product-cancel = cancel;
        square-injective = squares;
        power-lt = power-lt m positive;
        power_zero = power_zero m;
        power-suc = power-suc m;
        power-one = power-one m;
        one_power = one_power m positive;
        zero-power = zero-power m;
        power-add = power-add m positive;
        power-power = power-power m positive;
        power-product = power-product m positive;
        power-nonzero = power-not;
        power-cycle = cycle;
        α-lt = α-lt;
        α-nonzero = α-not;
        α-cycle = g.cycle;
        α-distinct = distinct;
        α-generates = g.exponent;
      }

  -- at an odd width, since 3 does not divide q-1
  pub cubes : m % 2 ≡ 1 → CubeInjective m
  cubes odd a b h l e = go (ℕ_discrete a 0) (ℕ_discrete b 0)
    where
      k : ℕ
      k = thirds (m / 2)

      half : m ≡ suc (m / 2 * 2)
      half = omega arith

      units : order m - 1 ≡ 1 + 3 * k
      units = omega (arith, ap order half ∙ odd-order (m / 2))

      -- a symbol times a power of its cube is 1
      split : (x : ℕ) → x ≢ 0 → x < order m → product m (power m (power m x 3) k) x ≡ 1
      split x n u =
          product-comm m (power m (power m x 3) k) x
          ∙ ap₂ (product m) (sym (power-one m x u)) (power-power m positive x 3 k)
          ∙ sym (power-add m positive x 1 (3 * k)) ∙ ap (power m x) (sym units) ∙ cycle x n u

      go : Dec (a ≡ 0) → Dec (b ≡ 0) → a ≡ b
      go (yes p) (yes r) = p ∙ sym r
      go (yes p) (no r) = absurd (power-not b 3 r l (sym e ∙ ap (λ (x : ℕ). power m x 3) p ∙ zero-power m 2))
      go (no p) (yes r) = absurd (power-not a 3 p h (e ∙ ap (λ (x : ℕ). power m x 3) r ∙ zero-power m 2))
      go (no p) (no r) =
          cancel (power m (power m a 3) k) a b (power-not (power m a 3) k (power-not a 3 p h) (power-lt m positive a 3)) (power-lt m positive (power m a 3) k) h l
          (split a p h ∙ sym (split b r l) ∙ ap (λ (x : ℕ). product m (power m x k) b) (sym e))
