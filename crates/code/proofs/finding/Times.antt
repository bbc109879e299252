-- A symbol times a column of a data place: row after row a product with the point, or at width 7 the exponent grows by that of the place.
-- Assumes nothing.
use Rattle.field.proofs.Base.{◌≡◌, refl, sym, ap, ap₂, ◌∙◌, subst, ◌≢◌, true, List, [], ◌∷◌, ℕ, ◌+◌, ◌-◌, ◌*◌, ◌%◌, ◌≤◌, ◌<◌, mod-eq_of_lt, add-zero}
use Rattle.field.proofs.Base.{zero-mul, arith}
use Rattle.field.specs.Field.{order, product, power, α}
use Rattle.field.specs.Question.{is_width}
use Rattle.field.specs.inner.Bytes.{multiplied}
use Rattle.field.proofs.Laws.{IsField}
use Rattle.field.proofs.Widths.{field_of}
use Rattle.field.proofs.Bytes.{multiplied-product}
use Rattle.field.proofs.Evaluation.{five-of, five-cong}
use Rattle.code.specs.Word.{checks, five}
use Rattle.code.specs.inner.Place.{column}
use Rattle.code.proofs.Columns.{column-power, column-lt}

-- row after row
module _ (m : ℕ) (w : is_width m ≡ true) (p x : ℕ) (h : checks ≤ p) (hx : x < order m) where
  abbrev F' : IsField m
  F' = field_of m w

  row_zero : x ≡ product m (column m p 0) x
  row_zero = sym (ap (λ (n : ℕ). product m n x) (column-power m p 0 h ∙ ap (power m α) (zero-mul (p - checks)) ∙ F'.power_zero α) ∙ F'.one_product x hx)

  row_next : (k : ℕ) → 1 * (p - checks) + k * (p - checks) ≡ (1 + k) * (p - checks)
      → product m (column m p 1) (product m (column m p k) x) ≡ product m (column m p (1 + k)) x
  row_next k e =
      sym (F'.product-assoc _ _ x)
      ∙ ap (λ (n : ℕ). product m n x)
      (ap₂ (product m) (column-power m p 1 h) (column-power m p k h) ∙ sym (F'.power-add α _ _) ∙ ap (power m α) e ∙ sym (column-power m p (1 + k) h))

  -- one more row, as the code makes it
  step : (a k u v : ℕ) → a ≡ column m p 1 → v ≡ multiplied m a u → u ≡ product m (column m p k) x
      → 1 * (p - checks) + k * (p - checks) ≡ (1 + k) * (p - checks) → v ≡ product m (column m p (1 + k)) x
  step a k u v ea ev eu e =
      ev
      ∙ multiplied-product (record { width = w; symbol = subst (λ (n : ℕ). n < order m) (sym ea) (column-lt F' p 1) })
      (record { width = w; symbol = subst (λ (n : ℕ). n < order m) (sym eu) (F'.product_lt _ _) })
      ∙ ap₂ (product m) ea eu ∙ row_next k e

  pub point-five : (a b c d e : ℕ) → a ≡ column m p 1 → b ≡ multiplied m a x → c ≡ multiplied m a b → d ≡ multiplied m a c → e ≡ multiplied m a d
      → ◌≡◌ {A = List ℕ} (x ∷ b ∷ c ∷ d ∷ e ∷ []) (five (λ k. product m (column m p k) x))
  point-five a b c d e ea eb ec ed ee = five-of (λ k. product m (column m p k) x) x b c d e row_zero r1 r2 r3 r4
    where
      r1 : b ≡ product m (column m p 1) x
      r1 = step a 0 x b ea eb row_zero (omega arith)

      r2 : c ≡ product m (column m p 2) x
      r2 = step a 1 b c ea ec r1 (omega arith)

      r3 : d ≡ product m (column m p 3) x
      r3 = step a 2 c d ea ed r2 (omega arith)

      r4 : e ≡ product m (column m p 4) x
      r4 = step a 3 d e ea ee r3 (omega arith)

-- times 1 it is the column
pub times-one : (m : ℕ) → is_width m ≡ true → (p : ℕ) → five (λ k. product m (column m p k) 1) ≡ five (column m p)
times-one m w p = five-cong _ _ (λ k l. (field_of m w).product-one _ (column-lt (field_of m w) p k))

-- ---- by exponents

abbrev F : IsField 7
F = field_of 7 refl

module _ (p i : ℕ) (h : checks ≤ p) (ei : i ≡ p - checks) where
  row : (k : ℕ) → power 7 α (k * i) ≡ column 7 p k
  row k = ap (λ (n : ℕ). power 7 α (k * n)) ei ∙ sym (column-power 7 p k h)

  -- the column itself
  pub powers-column : five (λ k. power 7 α (k * i + 0)) ≡ five (column 7 p)
  powers-column = five-cong _ _ (λ k l. ap (power 7 α) (add-zero (k * i)) ∙ row k)

  -- times x, whose exponent is e
  pub powers-times : (x e : ℕ) → x < 128 → x ≢ 0 → (1 % 128 ≢ 0 → x % 128 ≢ 0 → product 7 (power 7 α e) (1 % 128) ≡ x % 128)
      → five (λ k. power 7 α (k * i + e)) ≡ five (λ k. product 7 (column 7 p k) x)
  powers-times x e hx n ex = five-cong _ _ (λ k l. F.power-add α (k * i) e ∙ ap₂ (product 7) (row k) start)
    where
      low : x % 128 ≡ x
      low = mod-eq_of_lt hx

      one : 1 % 128 ≢ 0
      one z = omega arith

      start : power 7 α e ≡ x
      start = sym (F.product-one _ (F.power-lt α e)) ∙ ex one (λ z. n (sym low ∙ z)) ∙ low
