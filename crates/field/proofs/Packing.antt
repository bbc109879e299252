-- Operations on a number whose bytes are lanes act on each lane apart. Assumes nothing.
use Rattle.field.proofs.Base.{◌≡◌, refl, sym, ap, ap₂, ◌∙◌, List, [], ◌∷◌, ℕ, zero, suc, ◌+◌, ◌*◌, ◌/◌, ◌%◌, ◌^◌, ◌≤◌, ◌<◌, not-suc-le-zero}
use Rattle.field.proofs.Base.{le_of_suc-le-suc, arith}
use native.Mathlib.Nat.{mul_comm, mul-div_cancel, div-div-eq-div-mul, pow-suc}
use lib.Bits.{bit_and, bit_xor, and_block, xor_block, xor_shr, xor_mod}
use lib.Pow.{pow-add}
use Rattle.std.specs.Int.{w64, from_le_bytes, to_le_bytes}
use Rattle.field.specs.Polynomial.{add}
use Rattle.field.specs.Sum.{at}
use Rattle.field.specs.inner.Lanes.{lanes, lane, Below, eight}

abbrev tail : (ℕ → ℕ) → ℕ → ℕ
tail f j = f (suc j)

pub below-tail : (q n : ℕ) (f : ℕ → ℕ) → Below q (suc n) f → Below q n (tail f)
below-tail q n f b j h = b (suc j) (omega arith)

pub lanes-cong : (n : ℕ) (f g : ℕ → ℕ) → ((j : ℕ) → j < n → f j ≡ g j) → lanes n f ≡ lanes n g
unfolding lanes
lanes-cong zero f g e = refl
lanes-cong (suc n) f g e =
    ap₂ (λ (x y : ℕ). x * 256 + y) (lanes-cong n (tail f) (tail g) (λ j h. e (suc j) (omega arith))) (e 0 (omega arith))

pub lanes-lt : (n : ℕ) (f : ℕ → ℕ) → Below 256 n f → lanes n f < 256 ^ n
unfolding lanes
lanes-lt zero f b = omega arith
lanes-lt (suc n) f b = omega (arith, pow-suc 256 n, lanes-lt n (tail f) (below-tail 256 n f b), b 0 (omega arith))

pub lanes-times : (n c : ℕ) (f : ℕ → ℕ) → lanes n (λ j. f j * c) ≡ lanes n f * c
unfolding lanes
lanes-times zero c f = omega arith
lanes-times (suc n) c f = omega (arith, lanes-times n c (tail f), ap (λ (x : ℕ). x * 256) (lanes-times n c (tail f)))

pub lanes-over : (n c : ℕ) (f : ℕ → ℕ) → 0 < c → lanes n (λ j. f j * c) / c ≡ lanes n f
lanes-over n c f p = ap (λ (x : ℕ). x / c) (lanes-times n c f) ∙ mul-div_cancel (lanes n f) p

pub lanes-add : (n : ℕ) (f g : ℕ → ℕ) → Below 256 n f → Below 256 n g → add (lanes n f) (lanes n g) ≡ lanes n (λ j. add (f j) (g j))
unfolding lanes add
lanes-add zero f g b d = refl
lanes-add (suc n) f g b d =
    xor_block 8 (lanes n (tail f)) (lanes n (tail g)) (f 0) (g 0) (b 0 (omega arith)) (d 0 (omega arith))
    ∙ ap (λ (x : ℕ). x * 256 + bit_xor (f 0) (g 0)) (lanes-add n (tail f) (tail g) (below-tail 256 n f b) (below-tail 256 n g d))

-- a mask may have more lanes
pub lanes-and : (n k m : ℕ) (f : ℕ → ℕ) → n ≤ k → m < 256 → Below 256 n f → bit_and (lanes n f) (lanes k (λ j. m)) ≡ lanes n (λ j. bit_and (f j) m)
unfolding lanes
lanes-and zero k m f h l b = refl
lanes-and (suc n) zero m f h l b = absurd (not-suc-le-zero h)
lanes-and (suc n) (suc k) m f h l b =
    and_block 8 (lanes n (tail f)) (lanes k (λ j. m)) (f 0) m (b 0 (omega arith)) l
    ∙ ap (λ (x : ℕ). x * 256 + bit_and (f 0) m) (lanes-and n k m (tail f) (le_of_suc-le-suc h) l (below-tail 256 n f b))

-- the lower a lanes, and the b above them
pub lanes-split : (a b : ℕ) (f : ℕ → ℕ) → lanes (a + b) f ≡ lanes b (λ j. f (a + j)) * 256 ^ a + lanes a f
unfolding lanes
lanes-split zero b f = ap (λ (n : ℕ). lanes n f) zero-plus ∙ lanes-cong b f (λ j. f (0 + j)) (λ j h. ap f (sym (plus j))) ∙ one
  where
    plus : (j : ℕ) → 0 + j ≡ j
    plus j = omega arith

    zero-plus : 0 + b ≡ b
    zero-plus = omega arith

    one : lanes b (λ j. f (0 + j)) ≡ lanes b (λ j. f (0 + j)) * 1 + 0
    one = omega arith
lanes-split (suc a) b f =
    ap (λ (n : ℕ). lanes n f) step
    ∙ ap (λ (x : ℕ). x * 256 + f 0) (lanes-split a b (tail f) ∙ ap (λ (x : ℕ). x * 256 ^ a + lanes a (tail f)) upper)
    ∙ regroup (lanes b (λ j. f (suc a + j))) (256 ^ a) (lanes a (tail f)) (f 0)
    ∙ ap (λ (x : ℕ). lanes b (λ j. f (suc a + j)) * x + (lanes a (tail f) * 256 + f 0)) (sym (pow-suc 256 a))
  where
    step : suc a + b ≡ suc (a + b)
    step = omega arith

    shift : (j : ℕ) → suc (a + j) ≡ suc a + j
    shift j = omega arith

    upper : lanes b (λ j. f (suc (a + j))) ≡ lanes b (λ j. f (suc a + j))
    upper = lanes-cong b _ _ (λ j h. ap f (shift j))

    regroup : (x p y z : ℕ) → (x * p + y) * 256 + z ≡ x * (p * 256) + (y * 256 + z)
    regroup x p y z = omega arith

-- ---- what a number says of its lanes

pub lanes-zero : (n : ℕ) (f : ℕ → ℕ) → lanes n f ≡ 0 → (j : ℕ) → j < n → f j ≡ 0
unfolding lanes
lanes-zero zero f e j h = absurd (not-suc-le-zero h)
lanes-zero (suc n) f e zero h = omega arith
lanes-zero (suc n) f e (suc j) h = lanes-zero n (λ j. f (suc j)) (omega arith) j (le_of_suc-le-suc h)

-- ---- lanes, taken apart

pub lane-lanes : (n : ℕ) (f : ℕ → ℕ) (j : ℕ) → j < n → Below 256 n f → lane (lanes n f) j ≡ f j
unfolding lanes
lane-lanes zero f j h b = absurd (not-suc-le-zero h)
lane-lanes (suc n) f zero h b = omega (arith, b 0 h)
lane-lanes (suc n) f (suc j) h b =
    ap (λ (p : ℕ). (lanes n (tail f) * 256 + f 0) / p % 256) (pow-suc 256 j ∙ mul_comm (256 ^ j) 256)
    ∙ ap (λ (x : ℕ). x % 256) (sym (div-div-eq-div-mul (lanes n (tail f) * 256 + f 0) 256 (256 ^ j)))
    ∙ ap (λ (x : ℕ). x / 256 ^ j % 256) upper
    ∙ lane-lanes n (tail f) j (le_of_suc-le-suc h) (below-tail 256 n f b)
  where
    upper : (lanes n (tail f) * 256 + f 0) / 256 ≡ lanes n (tail f)
    upper = omega (arith, b 0 (omega arith))

pub lane-add : (a b j : ℕ) → lane (add a b) j ≡ add (lane a j) (lane b j)
unfolding add
lane-add a b j =
    ap (λ (p : ℕ). bit_xor a b / p % 256) (digits j) ∙ ap (λ (x : ℕ). x % 256) (xor_shr a b (8 * j)) ∙ xor_mod (a / 2 ^ (8 * j)) (b / 2 ^ (8 * j)) 8
    ∙ ap (λ (p : ℕ). bit_xor (a / p % 256) (b / p % 256)) (sym (digits j))
  where
    digits : (j : ℕ) → 256 ^ j ≡ 2 ^ (8 * j)
    digits zero = refl
    digits (suc j) =
        let e : 8 * j + 8 ≡ 8 * suc j = omega arith in
        pow-suc 256 j ∙ ap (λ (x : ℕ). x * 256) (digits j) ∙ sym (pow-add 2 (8 * j) 8) ∙ ap (λ (x : ℕ). 2 ^ x) e

pub eight-of : (f : ℕ → ℕ) {a b c d e g h i : ℕ} → a ≡ f 0 → b ≡ f 1 → c ≡ f 2 → d ≡ f 3 → e ≡ f 4 → g ≡ f 5 → h ≡ f 6 → i ≡ f 7
    → ◌≡◌ {A = List ℕ} (a ∷ b ∷ c ∷ d ∷ e ∷ g ∷ h ∷ i ∷ []) (eight f)
eight-of f ea eb ec ed ee eg eh ei = simp (ea, eb, ec, ed, ee, eg, eh, ei)

pub eight-cong : (f g : ℕ → ℕ) → ((j : ℕ) → j < 8 → f j ≡ g j) → eight f ≡ eight g
eight-cong f g e =
    eight-of g (e 0 (omega arith)) (e 1 (omega arith)) (e 2 (omega arith)) (e 3 (omega arith)) (e 4 (omega arith)) (e 5 (omega arith))
    (e 6 (omega arith)) (e 7 (omega arith))

-- ---- the bytes of a number of 64 bits, and the number of eight bytes

pub number-of-bytes : (bs : List ℕ) → from_le_bytes w64 bs ≡ lanes 8 (at bs)
unfolding lanes
number-of-bytes bs = omega arith

pub bytes-of-number : (a : ℕ) → to_le_bytes w64 a ≡ eight (lane a)
bytes-of-number a = eight-of (lane a) first refl refl refl refl refl refl refl
  where
    first : a % 256 ≡ a / 1 % 256
    first = omega arith
