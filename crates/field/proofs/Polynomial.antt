-- The laws of sum and carry-less product of polynomials over GF(2), for all numbers. Assumes nothing.
use Rattle.field.proofs.Base.{◌≡◌, refl, sym, ap, ap₂, ◌∙◌, ℕ, zero, suc, ◌*◌, ◌/◌, ◌%◌, ◌^◌, ◌≤◌, ◌<◌, le_refl, not-suc-le-zero, zero-mul}
use Rattle.field.proofs.Base.{add-zero, arith}
use native.Mathlib.Nat.{zero-lt-suc, mod-lt, div-add-mod', mul-one, one-mul, mul-zero, mul-div_cancel, mul-mod_left}
use native.Mathlib.Decide.{le_ind}
use lib.Arith.{half_le, bin_ind}
use lib.Bits.{bit_xor, xor_comm, xor_self, xor_zero_r, xor_lt, xor_block, xor_shr, xor_mod, xor_shifted}
use Rattle.field.specs.Polynomial.{add, digits_from, digits, carryless}

-- ---- the recursion over the digits

module _ (f : ℕ → ℕ → ℕ) (f0 : f zero zero ≡ zero) where
  more : (k n : ℕ) → n ≤ k → digits_from f (suc k) n ≡ digits_from f k n
  unfolding digits_from
  more zero zero h = refl
  more zero (suc n) h = absurd (not-suc-le-zero h)
  more (suc k) zero h = refl
  more (suc k) (suc n) h = ap (f (suc n)) (more k (suc n / 2) (half_le h))

  enough : (k n : ℕ) → n ≤ k → digits_from f k n ≡ digits_from f n n
  enough k n h = le_ind (λ (j : ℕ). digits_from f j n ≡ digits_from f n n) refl (λ j l e. more j n l ∙ e) k h

  pub digits_step : (n : ℕ) → digits f n ≡ f n (digits f (n / 2))
  unfolding digits digits_from
  digits_step zero = sym f0
  digits_step (suc n) = ap (f (suc n)) (enough n (suc n / 2) (half_le (le_refl (suc n))))

-- ---- sum

pub add_zero_l : (a : ℕ) → add zero a ≡ a
unfolding add
add_zero_l a = refl

pub add_zero_r : (a : ℕ) → add a zero ≡ a
unfolding add
add_zero_r a = xor_zero_r a

pub add_comm : (a b : ℕ) → add a b ≡ add b a
unfolding add
add_comm a b = xor_comm a b

pub add-self : (a : ℕ) → add a a ≡ zero
unfolding add
add-self a = xor_self a

pub add-lt : (k a b : ℕ) → a < 2 ^ k → b < 2 ^ k → add a b < 2 ^ k
unfolding add
add-lt k a b h l = xor_lt k a b h l

-- a digit is 0 or 1
pub data Digit : ℕ → Type 0 where
  off : Digit 0
  on : Digit 1

pub digit< : (n : ℕ) → n < 2 → Digit n
digit< zero h = off
digit< (suc zero) h = on
digit< (suc (suc n)) h = absurd (omega arith)

pub digit : (n : ℕ) → Digit (n % 2)
digit n = digit< (n % 2) (mod-lt n (zero-lt-suc 1))

-- the lowest digit and the rest
pub add_half : (a b : ℕ) → add a b / 2 ≡ add (a / 2) (b / 2)
unfolding add
add_half a b = xor_shr a b 1

pub add-odd : (a b : ℕ) → add a b % 2 ≡ add (a % 2) (b % 2)
unfolding add
add-odd a b = xor_mod a b 1

-- doubling passes through a sum
pub twice-add : (a b : ℕ) → add a b * 2 ≡ add (a * 2) (b * 2)
unfolding add
twice-add a b =
    sym (add-zero (bit_xor a b * 2)) ∙ sym (xor_block 1 a b 0 0 (zero-lt-suc 1) (zero-lt-suc 1))
    ∙ ap₂ bit_xor (add-zero (a * 2)) (add-zero (b * 2))

-- a number is the sum of its rest and its lowest digit
pub split : (n : ℕ) → n ≡ add (n / 2 * 2) (n % 2)
unfolding add
split n = sym (xor_shifted (n / 2) 1 (n % 2) (mod-lt n (zero-lt-suc 1)) ∙ div-add-mod' n 2)

add-assoc-digit : {x y z : ℕ} → Digit x → Digit y → Digit z → add (add x y) z ≡ add x (add y z)
unfolding add
add-assoc-digit off off off = refl
add-assoc-digit off off on = refl
add-assoc-digit off on off = refl
add-assoc-digit off on on = refl
add-assoc-digit on off off = refl
add-assoc-digit on off on = refl
add-assoc-digit on on off = refl
add-assoc-digit on on on = refl

-- two numbers are equal when their lowest digits and the rests are
pub same_digits : (a b : ℕ) → a / 2 ≡ b / 2 → a % 2 ≡ b % 2 → a ≡ b
same_digits a b p q = split a ∙ ap₂ (λ (x y : ℕ). add (x * 2) y) p q ∙ sym (split b)

pub add_assoc : (a b c : ℕ) → add (add a b) c ≡ add a (add b c)
add_assoc a =
    bin_ind (λ (n : ℕ). (b c : ℕ) → add (add n b) c ≡ add n (add b c)) (λ b c. simp add_zero_l)
    (λ n ih b c. same_digits (add (add n b) c) (add n (add b c))
    (simp add_half (ih (b / 2) (c / 2)))
    (simp add-odd (add-assoc-digit (digit n) (digit b) (digit c)))) a

pub add_left_comm : (a b c : ℕ) → add a (add b c) ≡ add b (add a c)
add_left_comm a b c = sym (add_assoc a b c) ∙ ap (λ (x : ℕ). add x c) (add_comm a b) ∙ add_assoc b a c

-- equal summands cancel
pub add-cancel : (a b : ℕ) → add a (add a b) ≡ b
add-cancel a b = sym (add_assoc a a b) ∙ ap (λ (x : ℕ). add x b) (add-self a) ∙ add_zero_l b

pub eq-of-add : (a b : ℕ) → add a b ≡ zero → a ≡ b
eq-of-add a b e = sym (add_zero_r a) ∙ ap (add a) (sym e) ∙ add-cancel a b

pub ruleset sums = (add_assoc, add_comm, add_left_comm, add_zero_l, add_zero_r)

pub interchange : (a b c d : ℕ) → add (add a b) (add c d) ≡ add (add a c) (add b d)
interchange a b c d = simp sums

-- ---- product

base : (b : ℕ) → add (zero * 2) (zero % 2 * b) ≡ zero
base b = add_zero_l (zero * b) ∙ zero-mul b

pub carryless-step : (a b : ℕ) → carryless a b ≡ add (carryless (a / 2) b * 2) (a % 2 * b)
unfolding carryless
carryless-step a b = digits_step (λ n r. add (r * 2) (n % 2 * b)) (base b) a

pub carryless-zero-l : (b : ℕ) → carryless zero b ≡ zero
unfolding carryless digits digits_from
carryless-zero-l b = refl

-- a digit times a number
pub digit-add-l : {x y : ℕ} (c : ℕ) → Digit x → Digit y → add x y * c ≡ add (x * c) (y * c)
digit-add-l c off off = simp (add_zero_l, zero-mul)
digit-add-l c off on = simp (add_zero_l, zero-mul)
digit-add-l c on off = simp (add_zero_r, zero-mul)
digit-add-l c on on = simp (add-self, zero-mul)

digit-add-r : {x : ℕ} (a b : ℕ) → Digit x → x * add a b ≡ add (x * a) (x * b)
digit-add-r a b off = simp (zero-mul, add_zero_l)
digit-add-r a b on = simp one-mul

-- the product distributes over the sum
pub carryless-add-l : (a b c : ℕ) → carryless (add a b) c ≡ add (carryless a c) (carryless b c)
carryless-add-l a b c =
    bin_ind (λ (n : ℕ). (b : ℕ) → carryless (add n b) c ≡ add (carryless n c) (carryless b c))
    (λ b. simp (add_zero_l, carryless-zero-l))
    (λ n ih b. carryless-step (add n b) c
    ∙ ap₂ (λ (x y : ℕ). add (carryless x c * 2) (y * c)) (add_half n b) (add-odd n b)
    ∙ ap₂ (λ (x y : ℕ). add (x * 2) y) (ih (b / 2)) (digit-add-l c (digit n) (digit b))
    ∙ ap (λ (x : ℕ). add x (add (n % 2 * c) (b % 2 * c))) (twice-add (carryless (n / 2) c) (carryless (b / 2) c))
    ∙ interchange (carryless (n / 2) c * 2) (carryless (b / 2) c * 2) (n % 2 * c) (b % 2 * c)
    ∙ ap₂ add (sym (carryless-step n c)) (sym (carryless-step b c))) a b

pub carryless-add-r : (a b c : ℕ) → carryless a (add b c) ≡ add (carryless a b) (carryless a c)
carryless-add-r a b c =
    bin_ind (λ (n : ℕ). carryless n (add b c) ≡ add (carryless n b) (carryless n c))
    (simp (add_zero_l, carryless-zero-l))
    (λ n ih. carryless-step n (add b c)
    ∙ ap₂ (λ (x y : ℕ). add (x * 2) y) ih (digit-add-r b c (digit n))
    ∙ ap (λ (x : ℕ). add x (add (n % 2 * b) (n % 2 * c))) (twice-add (carryless (n / 2) b) (carryless (n / 2) c))
    ∙ interchange (carryless (n / 2) b * 2) (carryless (n / 2) c * 2) (n % 2 * b) (n % 2 * c)
    ∙ ap₂ add (sym (carryless-step n b)) (sym (carryless-step n c))) a

-- a factor doubled
pub carryless-twice-l : (a b : ℕ) → carryless (a * 2) b ≡ carryless a b * 2
carryless-twice-l a b =
    carryless-step (a * 2) b
    ∙ ap₂ (λ (x y : ℕ). add (carryless x b * 2) (y * b)) (mul-div_cancel a (zero-lt-suc 1)) (mul-mod_left a 2)
    ∙ ap (add (carryless a b * 2)) (zero-mul b) ∙ add_zero_r (carryless a b * 2)

digit-twice : {x : ℕ} (b : ℕ) → Digit x → x * (b * 2) ≡ x * b * 2
digit-twice b off = simp zero-mul
digit-twice b on = simp one-mul

pub carryless-twice-r : (a b : ℕ) → carryless a (b * 2) ≡ carryless a b * 2
carryless-twice-r a b =
    bin_ind (λ (n : ℕ). carryless n (b * 2) ≡ carryless n b * 2)
    (simp carryless-zero-l)
    (λ n ih. carryless-step n (b * 2)
    ∙ ap₂ (λ (x y : ℕ). add (x * 2) y) ih (digit-twice b (digit n))
    ∙ sym (twice-add (carryless (n / 2) b * 2) (n % 2 * b))
    ∙ ap (λ (x : ℕ). x * 2) (sym (carryless-step n b))) a

pub carryless-zero-r : (a : ℕ) → carryless a zero ≡ zero
carryless-zero-r a =
    bin_ind (λ (n : ℕ). carryless n zero ≡ zero) (carryless-zero-l zero)
    (λ n ih. carryless-step n zero ∙ ap₂ (λ (x y : ℕ). add (x * 2) y) ih (mul-zero (n % 2)) ∙ add_zero_l zero) a

pub carryless-one-l : (b : ℕ) → carryless 1 b ≡ b
carryless-one-l b =
    carryless-step 1 b ∙ ap₂ (λ (x y : ℕ). add (x * 2) y) (carryless-zero-l b) (one-mul b) ∙ add_zero_l b

pub carryless-one-r : (a : ℕ) → carryless a 1 ≡ a
carryless-one-r a =
    bin_ind (λ (n : ℕ). carryless n 1 ≡ n) (carryless-zero-l 1)
    (λ n ih. carryless-step n 1 ∙ ap₂ (λ (x y : ℕ). add (x * 2) y) ih (mul-one (n % 2)) ∙ sym (split n)) a

pub carryless-digit-l : {x : ℕ} (b : ℕ) → Digit x → carryless x b ≡ x * b
carryless-digit-l b off = carryless-zero-l b ∙ sym (zero-mul b)
carryless-digit-l b on = carryless-one-l b ∙ sym (one-mul b)

carryless-digit-r : {x : ℕ} (b : ℕ) → Digit x → carryless b x ≡ x * b
carryless-digit-r b off = carryless-zero-r b ∙ sym (zero-mul b)
carryless-digit-r b on = carryless-one-r b ∙ sym (one-mul b)

pub carryless-comm : (a b : ℕ) → carryless a b ≡ carryless b a
carryless-comm a b =
    bin_ind (λ (n : ℕ). carryless n b ≡ carryless b n) (carryless-zero-l b ∙ sym (carryless-zero-r b))
    (λ n ih. carryless-step n b
    ∙ ap₂ (λ (x y : ℕ). add (x * 2) y) ih (sym (carryless-digit-r b (digit n)))
    ∙ ap (λ (x : ℕ). add x (carryless b (n % 2))) (sym (carryless-twice-r b (n / 2)))
    ∙ sym (carryless-add-r b (n / 2 * 2) (n % 2))
    ∙ ap (carryless b) (sym (split n))) a

pub carryless-assoc : (a b c : ℕ) → carryless (carryless a b) c ≡ carryless a (carryless b c)
carryless-assoc a b c =
    bin_ind (λ (n : ℕ). carryless (carryless n b) c ≡ carryless n (carryless b c))
    (simp carryless-zero-l)
    (λ n ih. ap (λ (x : ℕ). carryless x c) (carryless-step n b)
    ∙ carryless-add-l (carryless (n / 2) b * 2) (n % 2 * b) c
    ∙ ap₂ add
    (carryless-twice-l (carryless (n / 2) b) c ∙ ap (λ (x : ℕ). x * 2) ih)
    (ap (λ (x : ℕ). carryless x c) (sym (carryless-digit-l b (digit n)))
    ∙ digit_assoc (digit n)
    ∙ carryless-digit-l (carryless b c) (digit n))
    ∙ sym (carryless-step n (carryless b c))) a
  where
    digit_assoc : {x : ℕ} → Digit x → carryless (carryless x b) c ≡ carryless x (carryless b c)
    digit_assoc off = simp carryless-zero-l
    digit_assoc on = simp carryless-one-l
