-- Horner's rule for weighted sums, and one step of the pass that computes them. Bytes count by the symbols that they stand for.
-- Assumes nothing.
use Rattle.field.proofs.Base.{◌≡◌, refl, sym, ap, ap₂, ◌∙◌, subst, true, List, [], ◌∷◌, ◌++◌, ℕ, zero, suc, ◌*◌, ◌%◌, ◌<◌, mod-eq_of_lt}
use Rattle.field.proofs.Base.{arith, length}
use native.Mathlib.Nat.{mul-zero, mul-suc, add_comm}
use Rattle.field.specs.Polynomial.{add}
use Rattle.field.specs.Field.{order, product, power, α}
use Rattle.field.specs.Question.{is_width, all_below}
use Rattle.field.specs.inner.Bytes.{width_for, symbol_for, sums_for}
use Rattle.field.specs.Sum.{at, sum, five, weighted}
use Rattle.field.proofs.Laws.{IsField}
use Rattle.field.proofs.Widths.{field_of}
use Rattle.field.proofs.Bytes.{width-own, width-for, symbol-lt}
use Rattle.field.proofs.Below.{all_below-means}
use Rattle.field.proofs.Sums.{sum-cong, sum_first, sum-scale}

-- a number for each syndrome, at one of them
pub five-at : (f : ℕ → ℕ) (k : ℕ) → k < 5 → at (five f) k ≡ f k
five-at f zero h = refl
five-at f (suc zero) h = refl
five-at f (suc (suc zero)) h = refl
five-at f (suc (suc (suc zero))) h = refl
five-at f (suc (suc (suc (suc zero)))) h = refl
five-at f (suc (suc (suc (suc (suc k))))) h = absurd (omega arith)

pub five-of : (f : ℕ → ℕ) (a b c d e : ℕ) → a ≡ f 0 → b ≡ f 1 → c ≡ f 2 → d ≡ f 3 → e ≡ f 4 → ◌≡◌ {A = List ℕ} (a ∷ b ∷ c ∷ d ∷ e ∷ []) (five f)
five-of f a b c d e ea eb ec ed ee = simp (ea, eb, ec, ed, ee)

pub five-cong : (f g : ℕ → ℕ) → ((k : ℕ) → k < 5 → f k ≡ g k) → five f ≡ five g
five-cong f g e =
    five-of g (f 0) (f 1) (f 2) (f 3) (f 4) (e 0 (omega arith)) (e 1 (omega arith)) (e 2 (omega arith)) (e 3 (omega arith)) (e 4 (omega arith))

-- a weighted sum with its first symbol apart
weighted-first : {m : ℕ} (F : IsField m) (n k : ℕ) (f : ℕ → ℕ) → f 0 < order m
    → weighted m (suc n) f k ≡ add (product m (power m α k) (weighted m n (λ i. f (suc i)) k)) (f 0)
weighted-first {m} F n k f h =
    sum_first F n (λ i. product m (power m α (k * i)) (f i))
    ∙ ap₂ add
    (sum-cong n _ (λ i. product m (power m α k) (product m (power m α (k * i)) (f (suc i)))) (λ i l. shift i (f (suc i)))
    ∙ sum-scale F (power m α k) n (λ i. product m (power m α (k * i)) (f (suc i))))
    (ap (λ (e : ℕ). product m (power m α e) (f 0)) (mul-zero k) ∙ ap (λ (x : ℕ). product m x (f 0)) (F.power_zero α) ∙ F.one_product (f 0) h)
  where
    shift : (i x : ℕ) → product m (power m α (k * suc i)) x ≡ product m (power m α k) (product m (power m α (k * i)) x)
    shift i x =
        ap (λ (e : ℕ). product m (power m α e) x) (mul-suc k i ∙ add_comm (k * i) k) ∙ ap (λ (y : ℕ). product m y x) (F.power-add α k (k * i))
        ∙ F.product-assoc (power m α k) (power m α (k * i)) x

-- ---- the pass, at the width n that the byte m stands for

module _ (m : ℕ) where
  abbrev n : ℕ
  n = width_for m

  F : IsField n
  F = field_of n (width-for m)

  -- the sum k over the symbols, by Horner's rule
  unfoldable pub evaluate : List ℕ → ℕ → ℕ
  evaluate [] k = 0
  evaluate (c ∷ cs) k = add (product n (power n α k) (evaluate cs k)) (symbol_for m c)

  evaluate-weighted : (cs : List ℕ) (k : ℕ) → evaluate cs k ≡ weighted n (length cs) (λ i. symbol_for m (at cs i)) k
  unfolding evaluate sum
  evaluate-weighted [] k = refl
  evaluate-weighted (c ∷ cs) k =
      ap (λ (x : ℕ). add (product n (power n α k) x) (symbol_for m c)) (evaluate-weighted cs k)
      ∙ sym (weighted-first F (length cs) k (λ i. symbol_for m (at (c ∷ cs) i)) (symbol-lt m c))

  evaluate-lt : (cs : List ℕ) (k : ℕ) → evaluate cs k < order n
  unfolding evaluate
  evaluate-lt [] k = omega (arith, F.one-lt)
  evaluate-lt (c ∷ cs) k = F.add-lt _ _ (F.product_lt _ _) (symbol-lt m c)

  -- the power 0 of α changes nothing
  pub first-shift : (a : ℕ) → a < order n → a ≡ product n (power n α 0) a
  first-shift a h = sym (ap (λ (x : ℕ). product n x a) (F.power_zero α) ∙ F.one_product a h)

  -- ---- s holds the sums over the symbols cs that the pass has left behind

  pub pass-start : five (λ k. 0) ≡ five (evaluate [])
  unfolding evaluate
  pass-start = refl

  pub pass-small : (s cs : List ℕ) (k : ℕ) → s ≡ five (evaluate cs) → k < 5 → at s k < order n
  pass-small s cs k e l =
      subst (λ (x : ℕ). x < order n) (sym (ap (λ (t : List ℕ). at t k) e ∙ five-at (evaluate cs) k l)) (evaluate-lt cs k)

  pub pass_on : (s t cs : List ℕ) (c : ℕ) → s ≡ five (evaluate cs) → t ≡ five (λ k. add (product n (power n α k) (at s k)) (symbol_for m c))
      → t ≡ five (evaluate (c ∷ cs))
  unfolding evaluate
  pass_on s t cs c e f =
      f
      ∙ five-cong _ _ (λ k l. ap (λ (x : ℕ). add (product n (power n α k) x) (symbol_for m c))
      (ap (λ (u : List ℕ). at u k) e ∙ five-at (evaluate cs) k l))

  pub pass-end : (s cs rest xs : List ℕ) → s ≡ five (evaluate cs) → xs ≡ rest ++ cs → length rest ≡ 0 → s ≡ sums_for m xs
  unfolding sums_for
  pass-end s cs [] xs e split z = e ∙ five-cong _ _ (λ k l. evaluate-weighted cs k) ∙ ap (sums_for m) (sym split)
  pass-end s cs (x ∷ rest) xs e split z = absurd (omega arith)

-- ---- the five sums

-- of 127 bytes at width 7
pub sums-seven : (m : ℕ) (xs : List ℕ) → m ≡ 7 → length xs ≡ 127 → five (weighted 7 127 (λ i. at xs i % 128)) ≡ sums_for m xs
unfolding sums_for width_for symbol_for
sums-seven m xs e size =
    ap (λ (n : ℕ). five (weighted 7 n (λ i. at xs i % 128))) (sym size) ∙ ap (λ (k : ℕ). sums_for k xs) (sym e)

-- of symbols at a width of the field
pub sums-own : (m : ℕ) (xs : List ℕ) → is_width m ≡ true → all_below (order m) xs ≡ true → sums_for m xs ≡ five (weighted m (length xs) (at xs))
unfolding sums_for symbol_for
sums-own m xs w b =
    ap (λ (n : ℕ). five (weighted n (length xs) (λ i. at xs i % order n))) (width-own m w)
    ∙ five-cong _ _ (λ k l. sum-cong (length xs) _ _ (λ i h. ap (product m (power m α (k * i))) (mod-eq_of_lt (all_below-means (order m) xs b i h))))
