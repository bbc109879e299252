-- Totals of a function's first values, and the syndromes, which are linear. Assumes nothing.
use Rattle.field.proofs.Base.{◌≡◌, refl, sym, ap, ap₂, ◌∙◌, subst, ℕ, zero, suc, ◌+◌, ◌≤◌, ◌<◌, zero-le, add-zero, not-suc-le-zero, le_refl}
use Rattle.field.proofs.Base.{ℕ_discrete, arith}
use native.Mathlib.Nat.{add-suc, add_assoc}
use Rattle.field.specs.Polynomial.{add}
use Rattle.field.specs.Field.{order, product}
use Rattle.field.proofs.Laws.{IsField}
use Rattle.code.specs.Word.{checks, places, parity, syndrome}
use Rattle.code.specs.Erasure.{total}
use Rattle.field.proofs.Sums.{sum-cong, sum-add, sum-zero, sum_lt}

-- ---- totals

module _ (f g : ℕ → ℕ) where
  pub total-le : (n : ℕ) → ((i : ℕ) → i < n → f i ≤ g i) → total n f ≤ total n g
  unfolding total
  total-le zero h = zero-le
  total-le (suc n) h = omega (arith, total-le n (λ i l. h i (omega arith)), h n (le_refl (suc n)))

  pub total-add : (n : ℕ) → total n (λ i. f i + g i) ≡ total n f + total n g
  unfolding total
  total-add zero = refl
  total-add (suc n) = omega (arith, total-add n)

  pub total-cong : (n : ℕ) → ((i : ℕ) → i < n → f i ≡ g i) → total n f ≡ total n g
  unfolding total
  total-cong zero h = refl
  total-cong (suc n) h = omega (arith, total-cong n (λ i l. h i (omega arith)), h n (le_refl (suc n)))

pub total-zero : (n : ℕ) → total n (λ i. 0) ≡ 0
unfolding total
total-zero zero = refl
total-zero (suc n) = omega (arith, total-zero n)

pub total-split : (a b : ℕ) (f : ℕ → ℕ) → total (a + b) f ≡ total a f + total b (λ i. f (a + i))
unfolding total
total-split a zero f = ap (λ (n : ℕ). total n f) (add-zero a) ∙ sym (add-zero (total a f))
total-split a (suc b) f =
    ap (λ (n : ℕ). total n f) (add-suc a b) ∙ ap (λ (n : ℕ). n + f (a + b)) (total-split a b f) ∙ add_assoc (total a f) _ (f (a + b))

-- each part is at most the total
pub part-le : (n : ℕ) (f : ℕ → ℕ) (i : ℕ) → i < n → f i ≤ total n f
unfolding total
part-le zero f i h = absurd (not-suc-le-zero h)
part-le (suc n) f i h = go (ℕ_discrete i n) (λ l. part-le n f i l)
  where
    go : Dec (i ≡ n) → (i < n → f i ≤ total n f) → f i ≤ total n f + f n
    go (yes e) ih = subst (λ (j : ℕ). f j ≤ total n f + f n) (sym e) (omega arith)
    go (no d) ih = omega (arith, ih (omega arith))

-- ---- syndromes

module _ {m : ℕ} (F : IsField m) where
  pub parity-lt : (c : ℕ → ℕ) (k : ℕ) → parity m c k < order m
  parity-lt c k = sum_lt F _ _ (λ i h. F.product_lt _ _)

  parity-add : (u v : ℕ → ℕ) (k : ℕ) → parity m (λ i. add (u i) (v i)) k ≡ add (parity m u k) (parity m v k)
  parity-add u v k = sum-cong _ _ _ (λ i h. F.product-add _ _ _) ∙ sum-add F _ _ _

  -- the syndromes of the placewise sum of two words
  pub syndrome-add : (u v : ℕ → ℕ) (k : ℕ) → syndrome m (λ p. add (u p) (v p)) k ≡ add (syndrome m u k) (syndrome m v k)
  syndrome-add u v k =
      ap (add (add (u k) (v k))) (parity-add (λ i. u (checks + i)) (λ i. v (checks + i)) k) ∙ simp (F.add_assoc, F.add_left_comm)

  pub syndrome-cong : (u v : ℕ → ℕ) → ((p : ℕ) → p < places m → u p ≡ v p) → (k : ℕ) → k < checks → syndrome m u k ≡ syndrome m v k
  syndrome-cong u v same k h =
      ap₂ add (same k (omega arith)) (sum-cong _ _ _ (λ i l. ap (product m _) (same (checks + i) (omega arith))))

  pub syndrome-zero : (u : ℕ → ℕ) → ((p : ℕ) → p < places m → u p ≡ 0) → (k : ℕ) → k < checks → syndrome m u k ≡ 0
  syndrome-zero u z k h =
      syndrome-cong u (λ p. 0) z k h ∙ F.zero-add _ ∙ sum-cong _ _ (λ i. 0) (λ i l. F.product-zero _) ∙ sum-zero F _
