-- The sum over the symbols by segments: the sum in each, then the sum over the segments. Assumes nothing.
use Rattle.field.proofs.Base.{◌≡◌, sym, ap, ap₂, ◌∙◌, ℕ, zero, suc, ◌+◌, ◌*◌, arith}
use native.Mathlib.Nat.{mul-zero}
use Rattle.field.specs.Polynomial.{add}
use Rattle.field.specs.Field.{product, power, α}
use Rattle.field.specs.Sum.{sum, weighted}
use Rattle.field.proofs.Sums.{sum-cong, sum-split, sum-scale}
use Rattle.field.proofs.Lanewise.{F}
use Rattle.field.proofs.Folding.{power-apply}

-- the sum over n segments of p symbols
pub segments : (p n : ℕ) (c : ℕ → ℕ) (k : ℕ) → weighted 7 n (λ j. weighted 7 p (λ t. c (p * j + t)) k) (p * k) ≡ weighted 7 (p * n) c k
unfolding sum
segments p zero c k = ap (λ (n : ℕ). weighted 7 n c k) (sym (mul-zero p))
segments p (suc n) c k =
    ap₂ add (segments p n c k) (sym (sum-scale F (power 7 α (p * k * n)) p (λ t. product 7 (power 7 α (k * t)) (c (p * n + t))))
    ∙ sum-cong p _ (λ t. product 7 (power 7 α (k * (p * n + t))) (c (p * n + t)))
    (λ t h. sym (power-apply (p * k * n) (k * t) (c (p * n + t))) ∙ ap (λ (d : ℕ). product 7 (power 7 α d) (c (p * n + t))) (exponent t)))
    ∙ sym (sum-split F (p * n) p (λ i. product 7 (power 7 α (k * i)) (c i)))
    ∙ ap (λ (n : ℕ). weighted 7 n c k) size
  where
    exponent : (t : ℕ) → p * k * n + k * t ≡ k * (p * n + t)
    exponent t = omega arith

    size : p * n + p ≡ p * suc n
    size = omega arith
