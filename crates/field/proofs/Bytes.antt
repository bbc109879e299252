-- The laws of arithmetic on bytes below the questions: for symbols at a width of the field it is the arithmetic of the field.
-- Assumes nothing.
use Rattle.field.proofs.Base.{◌≡◌, refl, sym, ap, ap₂, ◌∙◌, subst, ◌≢◌, ◌⊎◌, inl, inr, Bool, true, false, cond, ℕ, ◌%◌, ◌≤◌, ◌<◌, mod-eq_of_lt}
use Rattle.field.proofs.Base.{ℕ_discrete, arith, eqb, ne_eqb}
use native.Mathlib.Nat.{mod-lt}
use lib.Bits.{bit_xor}
use lib.Pow.{pow_pos}
use Rattle.field.specs.Polynomial.{add}
use Rattle.field.specs.Field.{order, product, power, inverse, α}
use Rattle.field.specs.Question.{is_width}
use Rattle.field.specs.inner.Operand.{Operand}
use Rattle.field.specs.inner.Bytes.{width_for, symbol_for, multiplied, raised, inverted, shifted, unit_for, Small}
use Rattle.field.proofs.Laws.{IsField}
use Rattle.field.proofs.Widths.{field_at, Width.seven}

-- `^` on bytes is the sum
pub xor-add : (a b : ℕ) → bit_xor a b ≡ add a b
unfolding add
xor-add a b = refl

-- ---- the width that a byte stands for

pub width-own : (m : ℕ) → is_width m ≡ true → width_for m ≡ m
unfolding width_for
width-own m w = ap (λ (b : Bool). cond b m 7) w

pub width_is : (m n : ℕ) → is_width n ≡ true → m ≡ n → width_for m ≡ n
width_is m n w e = ap width_for e ∙ width-own n w

pub width-other : (m : ℕ) → m ≢ 3 → m ≢ 4 → m ≢ 5 → width_for m ≡ 7
unfolding width_for
width-other m a b c = go (ℕ_discrete m 7)
  where
    go : Dec (m ≡ 7) → width_for m ≡ 7
    go (yes e) = ap width_for e
    go (no d) = simp (ne_eqb m 3 a, ne_eqb m 4 b, ne_eqb m 5 c, ne_eqb m 7 d)

-- at a byte outside the range of `Small`, on either of two ways
pub width-large : {A B : Type 0} (m : ℕ) → (A → m < 3) → (B → 6 ≤ m) → A ⊎ B → width_for m ≡ 7
width-large m f g (inl a) = let l = f a in width-other m (λ e. omega arith) (λ e. omega arith) (λ e. omega arith)
width-large m f g (inr b) = let l = g b in width-other m (λ e. omega arith) (λ e. omega arith) (λ e. omega arith)

pub small-five : (m : ℕ) → Small m → m ≢ 3 → m ≢ 4 → m ≡ 5
small-five m s a b = omega arith

pub small_width : (m : ℕ) → Small m → is_width m ≡ true
small_width m s = go (ℕ_discrete m 3) (ℕ_discrete m 4)
  where
    go : Dec (m ≡ 3) → Dec (m ≡ 4) → is_width m ≡ true
    go (yes e) d = ap is_width e
    go (no a) (yes e) = ap is_width e
    go (no a) (no b) = ap is_width (small-five m s a b)

pub width-for : (m : ℕ) → is_width (width_for m) ≡ true
unfolding width_for
width-for m = go (is_width m) refl
  where
    go : (b : Bool) → is_width m ≡ b → is_width (cond b m 7) ≡ true
    go true e = e
    go false e = refl

-- the lowest digits of a byte are a symbol
pub operand_low : (n a : ℕ) → is_width n ≡ true → Operand n (a % order n)
operand_low n a w = record { width = w; symbol = mod-lt a (pow_pos n) }

-- ---- each operation at the width n that the byte m stands for

module _ (m n : ℕ) (e : width_for m ≡ n) where
  pub symbol-at : (a : ℕ) → symbol_for m a ≡ a % order n
  unfolding symbol_for
  symbol-at a = ap (λ (k : ℕ). a % order k) e

  pub multiplied-at : (a b : ℕ) → multiplied m a b ≡ product n (a % order n) (b % order n)
  unfolding multiplied symbol_for
  multiplied-at a b = ap (λ (k : ℕ). product k (a % order k) (b % order k)) e

  pub raised_at : (a i : ℕ) → raised m a i ≡ power n (a % order n) i
  unfolding raised symbol_for
  raised_at a i = ap (λ (k : ℕ). power k (a % order k) i) e

  pub inverted-at : (a : ℕ) → inverted m a ≡ inverse n (a % order n)
  unfolding inverted symbol_for
  inverted-at a = ap (λ (k : ℕ). inverse k (a % order k)) e

  pub shifted_at : (a k : ℕ) → shifted m a k ≡ product n (power n α k) (a % order n)
  unfolding shifted symbol_for
  shifted_at a k = ap (λ (j : ℕ). product j (power j α k) (a % order j)) e

pub symbol-lt : (m a : ℕ) → symbol_for m a < order (width_for m)
unfolding symbol_for
symbol-lt m a = mod-lt a (pow_pos (width_for m))

pub shifted-symbol : (m a k : ℕ) → a < order (width_for m) → shifted m a k ≡ product (width_for m) (power (width_for m) α k) a
shifted-symbol m a k h = shifted_at m (width_for m) refl a k ∙ ap (product (width_for m) (power (width_for m) α k)) (mod-eq_of_lt h)

-- ---- the unit that a byte stands for

pub unit-own : (a : ℕ) → a % 128 ≢ 0 → unit_for a ≡ a % 128
unfolding unit_for
unit-own a n = simp (ne_eqb (a % 128) 0 n)

pub unit-low : (a : ℕ) → unit_for (a % 128) ≡ unit_for a
unfolding unit_for
unit-low a = ap (λ (x : ℕ). cond (eqb x 0) 1 x) (mod-eq_of_lt (mod-lt a (omega arith)))

unit-nonzero : (a : ℕ) → unit_for a ≢ 0
unfolding unit_for
unit-nonzero a = go (ℕ_discrete (a % 128) 0)
  where
    go : Dec (a % 128 ≡ 0) → unit_for a ≢ 0
    go (yes e) = λ z. absurd (omega (arith, sym (ap (λ (x : ℕ). cond (eqb x 0) 1 x) e) ∙ z))
    go (no n) = λ z. n (sym (unit-own a n) ∙ z)

unit-lt : (a : ℕ) → unit_for a < 128
unfolding unit_for
unit-lt a = go (ℕ_discrete (a % 128) 0)
  where
    go : Dec (a % 128 ≡ 0) → unit_for a < 128
    go (yes e) = subst (λ (x : ℕ). x < 128) (sym (ap (λ (x : ℕ). cond (eqb x 0) 1 x) e)) (omega arith)
    go (no n) = subst (λ (x : ℕ). x < 128) (sym (unit-own a n)) (mod-lt a (omega arith))

-- the exponent of a ratio, of symbols other than 0
pub ratio-own : (a b e : ℕ) → product 7 (power 7 α e) (unit_for a) ≡ unit_for b
    → a % 128 ≢ 0 → b % 128 ≢ 0 → product 7 (power 7 α e) (a % 128) ≡ b % 128
ratio-own a b e r na nb = ap (product 7 (power 7 α e)) (sym (unit-own a na)) ∙ r ∙ unit-own b nb

-- it is one alone
pub ratio-unique : (a b i j : ℕ) → i < 127 → j < 127
    → product 7 (power 7 α i) (unit_for a) ≡ unit_for b → product 7 (power 7 α j) (unit_for a) ≡ unit_for b → i ≡ j
ratio-unique a b i j hi hj ei ej =
    F.α-distinct i j hi hj
    (F.product-cancel (unit_for a) (power 7 α i) (power 7 α j) (unit-nonzero a) (unit-lt a) (F.power-lt α i) (F.power-lt α j)
    (F.product-comm _ _ ∙ ei ∙ sym (F.product-comm _ _ ∙ ej)))
  where
    F : IsField 7
    F = field_at seven

-- ---- for symbols at a width of the field

module _ {m a : ℕ} (o : Operand m a) where
  own : width_for m ≡ m
  own = width-own m o.width

  low : a % order m ≡ a
  low = mod-eq_of_lt o.symbol

  pub multiplied-product : {b : ℕ} → Operand m b → multiplied m a b ≡ product m a b
  multiplied-product {b} p = multiplied-at m m own a b ∙ ap₂ (product m) low (mod-eq_of_lt p.symbol)

  pub raised-power : (e : ℕ) → raised m a e ≡ power m a e
  raised-power e = raised_at m m own a e ∙ ap (λ (x : ℕ). power m x e) low

  pub inverted-inverse : inverted m a ≡ inverse m a
  inverted-inverse = inverted-at m m own a ∙ ap (inverse m) low

  pub shifted_product : (k : ℕ) → shifted m a k ≡ product m (power m α k) a
  shifted_product k = shifted_at m m own a k ∙ ap (product m (power m α k)) low
