-- The lanes folded into one, by halves: the upper ones times a power of α are added to the lower ones. Assumes nothing.
use Rattle.field.proofs.Base.{◌≡◌, refl, sym, ap, ap₂, ◌∙◌, subst, ℕ, ◌+◌, ◌*◌, ◌/◌, ◌%◌, ◌^◌, ◌≤◌, ◌<◌, arith}
use native.Mathlib.Nat.{mul-zero}
use lib.Pow.{high, low}
use Rattle.field.specs.Polynomial.{add}
use Rattle.field.specs.Field.{product, power, α}
use Rattle.field.specs.Sum.{sum, weighted}
use Rattle.field.proofs.Sums.{sum-cong, sum-split, sum-add}
use Rattle.field.specs.inner.Lanes.{lanes, Below, Times}
use Rattle.field.proofs.Packing.{lanes-cong, lanes-lt, lanes-add, lanes-split}
use Rattle.field.proofs.Lanewise.{F}

-- ---- products with a power of α, from others

bytes : (n : ℕ) (f : ℕ → ℕ) → Below 128 n f → Below 256 n f
bytes n f b j h = omega (arith, b j h)

product-byte : (a b : ℕ) → product 7 a b < 256
product-byte a b = let h : product 7 a b < 128 = F.product_lt a b in omega arith

pub times-then : (d e g a r s : ℕ) → power 7 α g ≡ product 7 (power 7 α e) (power 7 α d) → Times d a r → Times e r s → Times g a s
times-then d e g a r s p x y n f h b q =
    y n (λ j. product 7 (power 7 α d) (f j)) h (λ j l. F.product_lt _ _) (x n f h b q)
    ∙ lanes-cong n _ _ (λ j l. sym (F.product-assoc _ _ (f j)) ∙ ap (λ (z : ℕ). product 7 z (f j)) (sym p))

pub times_none : (a : ℕ) → Times 0 a a
times_none a n f h b q =
    q ∙ lanes-cong n _ _ (λ j l. sym (ap (λ (z : ℕ). product 7 z (f j)) (F.power_zero α) ∙ F.one_product (f j) (b j l)))

-- ---- sums

-- a power of a sum of exponents, applied
pub power-apply : (d e x : ℕ) → product 7 (power 7 α (d + e)) x ≡ product 7 (power 7 α d) (product 7 (power 7 α e) x)
power-apply d e x = ap (λ (y : ℕ). product 7 y x) (F.power-add α d e) ∙ F.product-assoc _ _ x

-- the sum of one
pub weighted-one : (e : ℕ) (f : ℕ → ℕ) → f 0 < 128 → weighted 7 1 f e ≡ f 0
unfolding sum
weighted-one e f h =
    F.zero-add _ ∙ ap (λ (d : ℕ). product 7 (power 7 α d) (f 0)) (mul-zero e)
    ∙ ap (λ (x : ℕ). product 7 x (f 0)) (F.power_zero α) ∙ F.one_product (f 0) h

-- ---- one halving

abbrev halve : ℕ → ℕ → (ℕ → ℕ) → ℕ → ℕ
halve n e f j = add (f j) (product 7 (power 7 α e) (f (n + j)))

halve-below : (n e : ℕ) (f : ℕ → ℕ) → Below 128 (n + n) f → Below 128 n (halve n e f)
halve-below n e f b j h = F.add-lt _ _ (b j (omega arith)) (F.product_lt _ _)

halve-weighted : (n e : ℕ) (f : ℕ → ℕ) → weighted 7 (n + n) f e ≡ weighted 7 n (halve n (e * n) f) e
halve-weighted n e f =
    sum-split F n n (λ j. product 7 (power 7 α (e * j)) (f j))
    ∙ ap (add (weighted 7 n f e)) (sum-cong n _ (λ j. product 7 (power 7 α (e * j)) (product 7 (power 7 α (e * n)) (f (n + j))))
    (λ j h. ap (λ (d : ℕ). product 7 (power 7 α d) (f (n + j))) (exponent j) ∙ power-apply (e * j) (e * n) (f (n + j))))
    ∙ sym (sum-add F n _ _)
    ∙ sum-cong n _ _ (λ j h. sym (F.product-add _ _ _))
  where
    exponent : (j : ℕ) → e * (n + j) ≡ e * j + e * n
    exponent j = omega arith

module _ (n k : ℕ) (f : ℕ → ℕ) (size : 256 ^ n ≡ 2 ^ k) (b : Below 256 (n + n) f) where
  pub lower : lanes (n + n) f % 2 ^ k ≡ lanes n f
  lower =
      ap (λ (x : ℕ). x % 2 ^ k) (lanes-split n n f ∙ ap (λ (p : ℕ). lanes n (λ j. f (n + j)) * p + lanes n f) size)
      ∙ low (lanes n (λ j. f (n + j))) k (subst (λ (p : ℕ). lanes n f < p) size (lanes-lt n f (λ j h. b j (omega arith))))

  pub upper : lanes (n + n) f / 2 ^ k ≡ lanes n (λ j. f (n + j))
  upper =
      ap (λ (x : ℕ). x / 2 ^ k) (lanes-split n n f ∙ ap (λ (p : ℕ). lanes n (λ j. f (n + j)) * p + lanes n f) size)
      ∙ high (lanes n (λ j. f (n + j))) k (subst (λ (p : ℕ). lanes n f < p) size (lanes-lt n f (λ j h. b j (omega arith))))

  halved : (e a u : ℕ) → n ≤ 8 → Below 128 (n + n) f → a ≡ lanes (n + n) f → Times e (a / 2 ^ k) u → add (a % 2 ^ k) u ≡ lanes n (halve n e f)
  halved e a u h s q t =
      ap₂ add (ap (λ (x : ℕ). x % 2 ^ k) q ∙ lower)
      (t n (λ j. f (n + j)) h (λ j l. s (n + j) (omega arith)) (ap (λ (x : ℕ). x / 2 ^ k) q ∙ upper))
      ∙ lanes-add n f _ (λ j h. b j (omega arith)) (λ j h. product-byte _ _)

-- ---- three halvings leave the sum over the lanes
lanes-one : (f : ℕ → ℕ) → lanes 1 f ≡ f 0
unfolding lanes
lanes-one f = omega arith

pub folded : (e a u v w : ℕ) (f : ℕ → ℕ)
    → Times (e * 4) (a / 4294967296) u
    → Times (e * 2) (add (a % 4294967296) u / 65536) v
    → Times e (add (add (a % 4294967296) u % 65536) v / 256) w
    → Below 128 8 f → a ≡ lanes 8 f
    → add (add (add (a % 4294967296) u % 65536) v % 256) w ≡ weighted 7 8 f e
folded e a u v w f x y z b q =
    halved 1 8 f2 refl (bytes 2 f2 b2) (e * 1) _ w (omega arith) b2 q2 (subst (λ (k : ℕ). Times k (add (add (a % 4294967296) u % 65536) v / 256) w) once z)
    ∙ lanes-one (halve 1 (e * 1) f2)
    ∙ sym (weighted-one e (halve 1 (e * 1) f2) (halve-below 1 (e * 1) f2 b2 0 (omega arith)))
    ∙ sym (halve-weighted 4 e f ∙ halve-weighted 2 e f1 ∙ halve-weighted 1 e f2)
  where
    once : e ≡ e * 1
    once = omega arith

    f1 : ℕ → ℕ
    f1 = halve 4 (e * 4) f

    f2 : ℕ → ℕ
    f2 = halve 2 (e * 2) f1

    b1 : Below 128 4 f1
    b1 = halve-below 4 (e * 4) f b

    b2 : Below 128 2 f2
    b2 = halve-below 2 (e * 2) f1 b1

    q1 : add (a % 4294967296) u ≡ lanes 4 f1
    q1 = halved 4 32 f refl (bytes 8 f b) (e * 4) a u (omega arith) b q x

    q2 : add (add (a % 4294967296) u % 65536) v ≡ lanes 2 f2
    q2 = halved 2 16 f1 refl (bytes 4 f1 b1) (e * 2) _ v (omega arith) b1 q1 y
