-- Laws of field sums. Assumes nothing.
use Rattle.field.proofs.Base.{◌≡◌, refl, sym, ap, ap₂, ◌∙◌, ◌≢◌, ℕ, zero, suc, ◌+◌, ◌<◌, add-zero, le_refl, not-suc-le-zero, ℕ_discrete, arith}
use native.Mathlib.Nat.{add-suc}
use Rattle.field.specs.Polynomial.{add}
use Rattle.field.specs.Field.{order, product}
use Rattle.field.proofs.Laws.{IsField}
use Rattle.field.specs.Sum.{sum}

pub sum-none : (f : ℕ → ℕ) → sum 0 f ≡ 0
unfolding sum
sum-none f = refl

pub sum-suc : (n : ℕ) (f : ℕ → ℕ) → sum (suc n) f ≡ add (sum n f) (f n)
unfolding sum
sum-suc n f = refl

pub sum-cong : (n : ℕ) (f g : ℕ → ℕ) → ((i : ℕ) → i < n → f i ≡ g i) → sum n f ≡ sum n g
unfolding sum
sum-cong zero f g h = refl
sum-cong (suc n) f g h = ap₂ add (sum-cong n f g (λ i l. h i (omega arith))) (h n (le_refl (suc n)))

module _ {m : ℕ} (F : IsField m) where
  pub sum-add : (n : ℕ) (f g : ℕ → ℕ) → sum n (λ i. add (f i) (g i)) ≡ add (sum n f) (sum n g)
  unfolding sum
  sum-add zero f g = sym (F.add-zero 0)
  sum-add (suc n) f g =
      ap (λ (x : ℕ). add x (add (f n) (g n))) (sum-add n f g) ∙ simp (F.add_assoc, F.add_left_comm, F.add_comm)

  pub sum-times : (n : ℕ) (f : ℕ → ℕ) (z : ℕ) → sum n (λ i. product m (f i) z) ≡ product m (sum n f) z
  unfolding sum
  sum-times zero f z = sym (F.zero-product z)
  sum-times (suc n) f z = ap (λ (x : ℕ). add x (product m (f n) z)) (sum-times n f z) ∙ sym (F.add-product (sum n f) (f n) z)

  pub sum-zero : (n : ℕ) → sum n (λ i. 0) ≡ 0
  unfolding sum
  sum-zero zero = refl
  sum-zero (suc n) = F.add-zero _ ∙ sum-zero n

  pub sum_lt : (n : ℕ) (f : ℕ → ℕ) → ((i : ℕ) → i < n → f i < order m) → sum n f < order m
  unfolding sum
  sum_lt zero f h = omega arith
  sum_lt (suc n) f h = F.add-lt _ _ (sum_lt n f (λ i l. h i (omega arith))) (h n (le_refl (suc n)))

  pub sum-split : (a b : ℕ) (f : ℕ → ℕ) → sum (a + b) f ≡ add (sum a f) (sum b (λ i. f (a + i)))
  unfolding sum
  sum-split a zero f = ap (λ (n : ℕ). sum n f) (add-zero a) ∙ sym (F.add-zero (sum a f))
  sum-split a (suc b) f =
      ap (λ (n : ℕ). sum n f) (add-suc a b) ∙ ap (λ (n : ℕ). add n (f (a + b))) (sum-split a b f) ∙ F.add_assoc (sum a f) _ (f (a + b))

  pub sum_first : (n : ℕ) (f : ℕ → ℕ) → sum (suc n) f ≡ add (sum n (λ i. f (suc i))) (f 0)
  unfolding sum
  sum_first zero f = refl
  sum_first (suc n) f =
      ap (λ (x : ℕ). add x (f (suc n))) (sum_first n f) ∙ simp (F.add_assoc, F.add_left_comm, F.add_comm)

  pub sum-scale : (a n : ℕ) (f : ℕ → ℕ) → sum n (λ i. product m a (f i)) ≡ product m a (sum n f)
  unfolding sum
  sum-scale a zero f = sym (F.product-zero a)
  sum-scale a (suc n) f = ap (λ (x : ℕ). add x (product m a (f n))) (sum-scale a n f) ∙ sym (F.product-add a (sum n f) (f n))

  change : (s a b : ℕ) → add s a ≡ add (add s b) (add a b)
  change s a b = sym (F.add_assoc s b (add a b) ∙ ap (add s) (F.add_left_comm b a b ∙ ap (add a) (F.add-self b) ∙ F.add-zero a))

  -- two sums that differ at the place p only
  pub sum-change : (n : ℕ) (f g : ℕ → ℕ) (p : ℕ) → p < n → ((i : ℕ) → i < n → i ≢ p → f i ≡ g i) → sum n f ≡ add (sum n g) (add (f p) (g p))
  unfolding sum
  sum-change zero f g p h same = absurd (not-suc-le-zero h)
  sum-change (suc n) f g p h same = go (ℕ_discrete p n) (λ l. sum-change n f g p l (λ i j d. same i (omega arith) d))
    where
      go : Dec (p ≡ n) → (p < n → sum n f ≡ add (sum n g) (add (f p) (g p))) → add (sum n f) (f n) ≡ add (add (sum n g) (g n)) (add (f p) (g p))
      go (yes e) ih =
          ap (λ (s : ℕ). add s (f n)) (sum-cong n f g (λ i l. same i (omega arith) (λ j. omega arith)))
          ∙ change (sum n g) (f n) (g n)
          ∙ ap (λ (j : ℕ). add (add (sum n g) (g n)) (add (f j) (g j))) (sym e)
      go (no d) ih = ap₂ add (ih (omega arith)) (same n (le_refl (suc n)) (λ e. d (sym e))) ∙ simp (F.add_assoc, F.add_left_comm, F.add_comm)
