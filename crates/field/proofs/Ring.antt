-- The laws of sum and product modulo a polynomial, at every width: a commutative ring. Assumes nothing.
use Rattle.field.proofs.Base.{◌≡◌, refl, sym, ap, ap₂, ◌∙◌, subst, Bool, true, false, cond, ℕ, zero, suc, ◌*◌, ◌/◌, ◌%◌, ◌^◌, ◌≤◌, ◌<◌}
use Rattle.field.proofs.Base.{le_refl, not-suc-le-zero, zero-mul, arith, ltb, eqb, lit<, ltb-true, ltb-false, eqb-true, lt-ltb}
use native.Mathlib.Nat.{le_of_eq, lt_of_lt_of_le, lt_of_le_of_lt, zero-lt-suc, mod-lt, div-add-mod', one-mul, mul_comm, mul-div_cancel, mul-mod_left, pow-suc, div-eq_of_lt, div-lt_iff_lt-mul, le-div_iff_mul-le, mul-lt-mul_of_pos_right, div-le_self}
use lib.Arith.{bin_ind}
use lib.Pow.{pow_pos, pow_mono}
use lib.Dec.{lit≤}
use lib.Bits.{xor_shr}
use lib.Pow as P
use Rattle.field.specs.Polynomial.{add, carryless, digits, digits_from}
use Rattle.field.proofs.Polynomial.{add_assoc, add-self, add-lt, add_zero_l, add_zero_r, twice-add, interchange, add_half, add-odd, split, carryless-add-l, carryless-add-r, carryless-comm, carryless-assoc, carryless-step, carryless-zero-l, carryless-one-l, carryless-twice-l, carryless-zero-r, carryless-digit-l, add-cancel, sums, digits_step, Digit, Digit.off, Digit.on, digit, digit<, digit-add-l}
use Rattle.field.specs.Field.{order, polynomial, reduce, double, remainder, product}

-- ---- the polynomial has degree m

test : {A : Type 0} (b : Bool) → (b ≡ true → A) → (b ≡ false → A) → A
test true f g = f refl
test false f g = g refl

record Degree (m p : ℕ) : Type 0 where
  pub low : order m ≤ p
  pub high : p < order (suc m)

-- a fact of either case of a test
cases : (P : ℕ → Type 0) (b : Bool) (x y : ℕ) → (b ≡ true → P x) → (b ≡ false → P y) → P (cond b x y)
cases P true x y f g = f refl
cases P false x y f g = g refl

degree : (m : ℕ) → Degree m (polynomial m)
unfolding polynomial
degree m =
    cases (Degree m) (eqb m 3) _ _ (λ e. at 3 _ e (record { low = lit≤ tt; high = lit< tt }))
    (λ a. cases (Degree m) (eqb m 4) _ _ (λ e. at 4 _ e (record { low = lit≤ tt; high = lit< tt }))
    (λ b. cases (Degree m) (eqb m 5) _ _ (λ e. at 5 _ e (record { low = lit≤ tt; high = lit< tt }))
    (λ c. cases (Degree m) (eqb m 7) _ _ (λ e. at 7 _ e (record { low = lit≤ tt; high = lit< tt }))
    (λ d. record { low = le_refl (2 ^ m); high = P.pow-lt (le_refl (suc m)) }))))
  where
    at : (k p : ℕ) → eqb m k ≡ true → Degree k p → Degree m p
    at k p e d = subst (λ (j : ℕ). Degree j p) (sym (eqb-true m k e)) d

-- ---- times α

twice-lt : (m a : ℕ) → a < order m → a * 2 < order (suc m)
twice-lt m a h = rw pow-suc (mul-lt-mul_of_pos_right h (zero-lt-suc 1))

-- the coefficient of degree m
top : (m x : ℕ) → x < order (suc m) → Digit (x / 2 ^ m)
top m x h = digit< (x / 2 ^ m) ((div-lt_iff_lt-mul (pow_pos m)).1 (subst (λ (y : ℕ). x < y) (pow-suc 2 m ∙ mul_comm (2 ^ m) 2) h))

top-off : (m x : ℕ) → x < order m → x / 2 ^ m ≡ 0
top-off m x h = div-eq_of_lt h

top-on : (m x : ℕ) → order m ≤ x → x < order (suc m) → x / 2 ^ m ≡ 1
top-on m x h l = go (top m x l) ((le-div_iff_mul-le (pow_pos m)).1 (rw one-mul h))
  where
    go : {y : ℕ} → Digit y → 1 ≤ y → y ≡ 1
    go off k = absurd (not-suc-le-zero k)
    go on k = refl

reduce-top : (m x : ℕ) → x < order (suc m) → reduce m x ≡ add x (x / 2 ^ m * polynomial m)
unfolding reduce
reduce-top m x h =
    test (ltb x (order m))
    (λ e. rw (e, top-off m x (ltb-true x (order m) e), zero-mul, add_zero_r))
    (λ e. rw (e, top-on m x (ltb-false x (order m) e) h, one-mul))

shr-add : (m x y : ℕ) → add x y / 2 ^ m ≡ add (x / 2 ^ m) (y / 2 ^ m)
unfolding add
shr-add m x y = xor_shr x y m

reduce-add : (m x y : ℕ) → x < order (suc m) → y < order (suc m) → reduce m (add x y) ≡ add (reduce m x) (reduce m y)
reduce-add m x y h l =
    reduce-top m (add x y) (add-lt (suc m) x y h l)
    ∙ ap (λ (t : ℕ). add (add x y) (t * polynomial m)) (shr-add m x y)
    ∙ ap (add (add x y)) (digit-add-l (polynomial m) (top m x h) (top m y l))
    ∙ interchange x y (x / 2 ^ m * polynomial m) (y / 2 ^ m * polynomial m)
    ∙ ap₂ add (sym (reduce-top m x h)) (sym (reduce-top m y l))

double-top : (m a : ℕ) → a < order m → double m a ≡ add (a * 2) (a * 2 / 2 ^ m * polynomial m)
unfolding double
double-top m a h = reduce-top m (a * 2) (twice-lt m a h)

reduce-same : (m x : ℕ) → x < order m → reduce m x ≡ x
unfolding reduce
reduce-same m x h = rw (lt-ltb x (order m) h)

reduce-lt : (m x : ℕ) → x < order (suc m) → reduce m x < order m
unfolding reduce
reduce-lt m x h =
    test (ltb x (order m))
    (λ e. rw e (ltb-true x (order m) e))
    (λ e. rw e (subst (λ (y : ℕ). add x (polynomial m) < y) (one-mul (2 ^ m)) ((div-lt_iff_lt-mul (pow_pos m)).0 (le_of_eq (ap suc (gone e))))))
  where
    gone : ltb x (order m) ≡ false → add x (polynomial m) / 2 ^ m ≡ 0
    gone e =
        shr-add m x (polynomial m)
        ∙ ap₂ add (top-on m x (ltb-false x (order m) e) h) (top-on m (polynomial m) (degree m).low (degree m).high)
        ∙ add-self 1

pub double-zero : (m : ℕ) → double m zero ≡ zero
unfolding double
double-zero m = reduce-same m zero (pow_pos m)

pub double-lt : (m a : ℕ) → a < order m → double m a < order m
unfolding double
double-lt m a h = reduce-lt m (a * 2) (twice-lt m a h)

pub double-add : (m a b : ℕ) → a < order m → b < order m → double m (add a b) ≡ add (double m a) (double m b)
unfolding double
double-add m a b h l = ap (reduce m) (twice-add a b) ∙ reduce-add m (a * 2) (b * 2) (twice-lt m a h) (twice-lt m b l)

-- ---- the remainder

base : (m : ℕ) → add (double m zero) (zero % 2) ≡ zero
base m = add_zero_r (double m zero) ∙ double-zero m

pub remainder-step : (m c : ℕ) → remainder m c ≡ add (double m (remainder m (c / 2))) (c % 2)
unfolding remainder
remainder-step m c = digits_step (λ n r. add (double m r) (n % 2)) (base m) c

pub remainder-zero : (m : ℕ) → remainder m zero ≡ zero
unfolding remainder digits digits_from
remainder-zero m = refl

-- a symbol is its own remainder
pub remainder-same : (m c : ℕ) → c < order m → remainder m c ≡ c
unfolding double
remainder-same m =
    bin_ind (λ (n : ℕ). n < order m → remainder m n ≡ n) (λ h. remainder-zero m)
    (λ n ih h. remainder-step m n
    ∙ ap (λ (x : ℕ). add (double m x) (n % 2)) (ih (lt_of_le_of_lt (div-le_self n 2) h))
    ∙ ap (λ (x : ℕ). add x (n % 2)) (reduce-same m (n / 2 * 2) (omega (arith, div-add-mod' n 2, h)))
    ∙ sym (split n))

module _ (m : ℕ) (pos : 0 < m) where
  two-le : 2 ≤ order m
  two-le = pow_mono pos

  digit_lt : (n : ℕ) → n % 2 < order m
  digit_lt n = lt_of_lt_of_le (mod-lt n (zero-lt-suc 1)) two-le

  pub remainder-lt : (c : ℕ) → remainder m c < order m
  remainder-lt =
      bin_ind (λ (n : ℕ). remainder m n < order m) (rw (remainder-zero m) (pow_pos m))
      (λ n ih. rw (remainder-step m n) (add-lt m (double m (remainder m (n / 2))) (n % 2) (double-lt m (remainder m (n / 2)) ih) (digit_lt n)))

  pub remainder-add : (a b : ℕ) → remainder m (add a b) ≡ add (remainder m a) (remainder m b)
  remainder-add =
      bin_ind (λ (n : ℕ). (b : ℕ) → remainder m (add n b) ≡ add (remainder m n) (remainder m b))
      (λ b. simp (add_zero_l, remainder-zero m))
      (λ n ih b. remainder-step m (add n b)
      ∙ ap₂ (λ (x y : ℕ). add (double m (remainder m x)) y) (add_half n b) (add-odd n b)
      ∙ ap (λ (x : ℕ). add (double m x) (add (n % 2) (b % 2))) (ih (b / 2))
      ∙ ap (λ (x : ℕ). add x (add (n % 2) (b % 2))) (double-add m (remainder m (n / 2)) (remainder m (b / 2)) (remainder-lt (n / 2)) (remainder-lt (b / 2)))
      ∙ interchange (double m (remainder m (n / 2))) (double m (remainder m (b / 2))) (n % 2) (b % 2)
      ∙ ap₂ add (sym (remainder-step m n)) (sym (remainder-step m b)))

  pub remainder-twice : (c : ℕ) → remainder m (c * 2) ≡ double m (remainder m c)
  remainder-twice c =
      remainder-step m (c * 2)
      ∙ ap₂ (λ (x y : ℕ). add (double m (remainder m x)) y) (mul-div_cancel c (zero-lt-suc 1)) (mul-mod_left c 2)
      ∙ add_zero_r (double m (remainder m c))

  pub remainder-remainder : (c : ℕ) → remainder m (remainder m c) ≡ remainder m c
  remainder-remainder c = remainder-same m (remainder m c) (remainder-lt c)

  digit-remainder : {x : ℕ} (b : ℕ) → Digit x → remainder m (x * remainder m b) ≡ remainder m (x * b)
  digit-remainder b off = simp zero-mul
  digit-remainder b on = simp (one-mul, remainder-remainder)

  -- a factor may be reduced first
  pub remainder-carryless-r : (a b : ℕ) → remainder m (carryless a (remainder m b)) ≡ remainder m (carryless a b)
  remainder-carryless-r a b =
      bin_ind (λ (n : ℕ). remainder m (carryless n (remainder m b)) ≡ remainder m (carryless n b))
      (simp carryless-zero-l)
      (λ n ih. step n (remainder m b)
      ∙ ap₂ (λ (x y : ℕ). add (double m x) y) ih (digit-remainder b (digit n))
      ∙ sym (step n b)) a
    where
      step : (n c : ℕ) → remainder m (carryless n c) ≡ add (double m (remainder m (carryless (n / 2) c))) (remainder m (n % 2 * c))
      step n c =
          ap (remainder m) (carryless-step n c) ∙ remainder-add (carryless (n / 2) c * 2) (n % 2 * c)
          ∙ ap (λ (x : ℕ). add x (remainder m (n % 2 * c))) (remainder-twice (carryless (n / 2) c))

  pub remainder-carryless-l : (a b : ℕ) → remainder m (carryless (remainder m a) b) ≡ remainder m (carryless a b)
  remainder-carryless-l a b =
      ap (remainder m) (carryless-comm (remainder m a) b) ∙ remainder-carryless-r b a ∙ ap (remainder m) (carryless-comm b a)

  -- ---- the product

  pub product_lt : (a b : ℕ) → product m a b < order m
  unfolding product
  product_lt a b = remainder-lt (carryless a b)

  pub product-assoc : (a b c : ℕ) → product m (product m a b) c ≡ product m a (product m b c)
  unfolding product
  product-assoc a b c =
      remainder-carryless-l (carryless a b) c ∙ ap (remainder m) (carryless-assoc a b c) ∙ sym (remainder-carryless-r a (carryless b c))

  pub product-add-l : (a b c : ℕ) → product m (add a b) c ≡ add (product m a c) (product m b c)
  unfolding product
  product-add-l a b c = ap (remainder m) (carryless-add-l a b c) ∙ remainder-add (carryless a c) (carryless b c)

  pub product-add-r : (a b c : ℕ) → product m a (add b c) ≡ add (product m a b) (product m a c)
  unfolding product
  product-add-r a b c = ap (remainder m) (carryless-add-r a b c) ∙ remainder-add (carryless a b) (carryless a c)

pub product-comm : (m a b : ℕ) → product m a b ≡ product m b a
unfolding product
product-comm m a b = ap (remainder m) (carryless-comm a b)

pub product-zero-l : (m b : ℕ) → product m zero b ≡ zero
unfolding product
product-zero-l m b = ap (remainder m) (carryless-zero-l b) ∙ remainder-zero m

pub product-zero-r : (m a : ℕ) → product m a zero ≡ zero
product-zero-r m a = product-comm m a zero ∙ product-zero-l m a

pub product-one-l : (m b : ℕ) → b < order m → product m 1 b ≡ b
unfolding product
product-one-l m b h = ap (remainder m) (carryless-one-l b) ∙ remainder-same m b h

pub product-one-r : (m a : ℕ) → a < order m → product m a 1 ≡ a
product-one-r m a h = product-comm m a 1 ∙ product-one-l m a h

-- ---- what the remainder means: what is left of a number when a multiple of the polynomial is taken away, and below the order

moved : (a b c d : ℕ) → add (add a b) d ≡ add (add a c) (add (add b c) d)
moved a b c d = simp (sums, add-cancel)

divide-step : (m n k r : ℕ) → r < order m → n / 2 ≡ add (carryless k (polynomial m)) r → remainder m n ≡ add (double m r) (n % 2)
    → n ≡ add (carryless (add (k * 2) (r * 2 / 2 ^ m)) (polynomial m)) (remainder m n)
divide-step m n k r h e s =
    let p = polynomial m in
    let t = r * 2 / 2 ^ m in
    split n ∙ ap (λ (x : ℕ). add (x * 2) (n % 2)) e ∙ ap (λ (x : ℕ). add x (n % 2)) (twice-add (carryless k p) r)
    ∙ ap (λ (x : ℕ). add (add x (r * 2)) (n % 2)) (sym (carryless-twice-l k p))
    ∙ moved (carryless (k * 2) p) (r * 2) (t * p) (n % 2)
    ∙ ap₂ add
    (ap (add (carryless (k * 2) p)) (sym (carryless-digit-l p (top m (r * 2) (twice-lt m r h)))) ∙ sym (carryless-add-l (k * 2) t p))
    (ap (λ (x : ℕ). add x (n % 2)) (sym (double-top m r h)) ∙ sym s)

module _ (m : ℕ) (pos : 0 < m) where
  -- a number is a multiple of the polynomial, and the remainder
  pub division : (c : ℕ) → (k : ℕ) × (c ≡ add (carryless k (polynomial m)) (remainder m c))
  division =
      bin_ind (λ (n : ℕ). (k : ℕ) × (n ≡ add (carryless k (polynomial m)) (remainder m n)))
      (zero, sym (ap₂ add (carryless-zero-l (polynomial m)) (remainder-zero m) ∙ add_zero_l zero))
      (λ n ih. (
        add (ih.0 * 2) (remainder m (n / 2) * 2 / 2 ^ m),
        divide-step m n ih.0 (remainder m (n / 2)) (remainder-lt m pos (n / 2)) ih.1 (remainder-step m n),
      ))

  even-part : (n : ℕ) → n / 2 * 2 ≡ add n (n % 2)
  even-part n =
      sym (add_zero_r (n / 2 * 2)) ∙ ap (add (n / 2 * 2)) (sym (add-self (n % 2)))
      ∙ sym (add_assoc (n / 2 * 2) (n % 2) (n % 2)) ∙ ap (λ (x : ℕ). add x (n % 2)) (sym (split n))

  remainder-polynomial : remainder m (polynomial m) ≡ 0
  remainder-polynomial =
      remainder-step m p
      ∙ ap (λ (x : ℕ). add (double m x) (p % 2)) (remainder-same m (p / 2) half)
      ∙ ap (λ (x : ℕ). add x (p % 2)) (double-top m (p / 2) half ∙ ap (λ (t : ℕ). add (p / 2 * 2) (t * p)) one ∙ ap (add (p / 2 * 2)) (one-mul p))
      ∙ ap (λ (x : ℕ). add (add x p) (p % 2)) (even-part p)
      ∙ simp (sums, add-cancel, add-self)
    where
      p : ℕ
      p = polynomial m

      half : p / 2 < order m
      half = (div-lt_iff_lt-mul (zero-lt-suc 1)).1 (subst (λ (y : ℕ). p < y) (pow-suc 2 m) (degree m).high)

      one : p / 2 * 2 / 2 ^ m ≡ 1
      one =
          ap (λ (x : ℕ). x / 2 ^ m) (even-part p) ∙ shr-add m p (p % 2)
          ∙ ap₂ add (top-on m p (degree m).low (degree m).high) (top-off m (p % 2) (digit_lt m pos p)) ∙ add_zero_r 1

  -- and nothing else below the order is
  pub remainder-unique : (c k r : ℕ) → r < order m → c ≡ add (carryless k (polynomial m)) r → remainder m c ≡ r
  remainder-unique c k r h e =
      ap (remainder m) e ∙ remainder-add m pos (carryless k (polynomial m)) r
      ∙ ap₂ add
      (sym (remainder-carryless-r m pos k (polynomial m)) ∙ ap (λ (x : ℕ). remainder m (carryless k x)) remainder-polynomial
      ∙ ap (remainder m) (carryless-zero-r k) ∙ remainder-zero m)
      (remainder-same m r h)
      ∙ add_zero_l r
