-- The search for roots: what holds before each turn, and a law for each way on and out. Assumes nothing.
use Rattle.std.proofs.Common.{Some, None}
use Rattle.field.proofs.Base.{◌≡◌, refl, sym, ap, ap₂, ◌∙◌, subst, ◌≢◌, true, ℕ, ◌+◌, ◌-◌, ◌*◌, ◌%◌, ◌≤◌, ◌<◌, mod-eq_of_lt, ℕ_discrete, arith}
use Rattle.field.specs.Polynomial.{add}
use Rattle.field.specs.Field.{order, product, power, α}
use Rattle.field.specs.Question.{is_width}
use Rattle.field.specs.inner.Operand.{Operand}
use Rattle.field.specs.inner.Bytes.{shifted}
use Rattle.field.proofs.Laws.{IsField}
use Rattle.field.proofs.Widths.{field_of}
use Rattle.field.proofs.Bytes.{shifted_product}
use Rattle.code.proofs.Algebra.{add-of-eq}
use Rattle.code.specs.inner.Scan.{value_at, Carried, Root, Scanned, LinearRatio}

pub record Scanning (m a b c from at d e : ℕ) : Type 0 where
  pub carried : Carried m a b at d e
  pub before : (t : ℕ) → from ≤ t → t < at → value_at m a b c t ≢ 0

module _ (m : ℕ) (w : is_width m ≡ true) where
  F : IsField m
  F = field_of m w

  -- what is carried are symbols
  carried-square : {a b i d e : ℕ} → Carried m a b i d e → Operand m d
  carried-square C = record { width = w; symbol = subst (λ (n : ℕ). n < order m) (sym C.square) (F.product_lt _ _) }

  carried-linear : {a b i d e : ℕ} → Carried m a b i d e → Operand m e
  carried-linear C = record { width = w; symbol = subst (λ (n : ℕ). n < order m) (sym C.linear) (F.product_lt _ _) }

  twice : (j k a : ℕ) → product m (power m α j) (product m (power m α k) a) ≡ product m (power m α (j + k)) a
  twice j k a = sym (F.product-assoc _ _ _) ∙ ap (λ (n : ℕ). product m n a) (sym (F.power-add α j k))

  -- shifts carry the terms to the next exponent
  pub carried_on : {a b i d e d' e' : ℕ} → Carried m a b i d e → d' ≡ shifted m d 2 → e' ≡ shifted m e 1 → Carried m a b (i + 1) d' e'
  carried_on {a} {b} {i} C ed ee =
      let two : 2 + 2 * i ≡ 2 * (i + 1) = omega arith in
      let one : 1 + i ≡ i + 1 = omega arith in
      record {
        square = ed ∙ shifted_product (carried-square C) 2 ∙ ap (product m (power m α 2)) C.square ∙ twice 2 (2 * i) a ∙ ap (λ (n : ℕ). product m (power m α n) a) two;
        linear = ee ∙ shifted_product (carried-linear C) 1 ∙ ap (product m (power m α 1)) C.linear ∙ twice 1 i b ∙ ap (λ (n : ℕ). product m (power m α n) b) one;
      }

  -- the test at an exponent
  test-root : {a b c i d e : ℕ} → Carried m a b i d e → add d e ≡ c → value_at m a b c i ≡ 0
  test-root {c = c} C z = ap (λ (n : ℕ). add n c) (sym (ap₂ add C.square C.linear)) ∙ add-of-eq F _ _ z

  test-none : {a b c i d e : ℕ} → Carried m a b i d e → (add d e ≡ c → ⊥) → value_at m a b c i ≢ 0
  test-none {c = c} C n z = n (ap₂ add C.square C.linear ∙ F.eq-of-add _ c z)

  pub scanning-on : {a b c from i d e d' e' : ℕ} → Scanning m a b c from i d e → (add d e ≡ c → ⊥)
      → d' ≡ shifted m d 2 → e' ≡ shifted m e 1 → Scanning m a b c from (i + 1) d' e'
  scanning-on {a} {b} {c} {from} {i} S n ed ee = record {
    carried = carried_on S.carried ed ee;
    before = λ t h l. go t h l (ℕ_discrete t i);
  }
    where
      go : (t : ℕ) → from ≤ t → t < i + 1 → Dec (t ≡ i) → value_at m a b c t ≢ 0
      go t h l (yes d) = subst (λ (j : ℕ). value_at m a b c j ≢ 0) (sym d) (test-none S.carried n)
      go t h l (no d) = S.before t h (omega arith)

  pub scanning-found : {a b c from i d e : ℕ} (n : ℕ) → Scanning m a b c from i d e → add d e ≡ c
      → Scanned m a b c from n (Some (record { at = record { 0 = i }; square = d; linear = e }))
  scanning-found n S z = (S.carried, record { before = S.before; root = test-root S.carried z })

  pub scanning-end : {a b c from i d e : ℕ} (n : ℕ) → n ≤ i → Scanning m a b c from i d e → Scanned m a b c from n None
  scanning-end n h S t from l = S.before t from (omega arith)

  -- the terms of a linear function at each exponent
  linear-at : {a b x : ℕ} → Carried m a b 0 0 x → (t : ℕ) → Carried m a b t 0 (product m (power m α t) x)
  linear-at {a} {b} C t =
      let two : 2 * t + 2 * 0 ≡ 2 * t = omega arith in
      let one : t + 0 ≡ t = omega arith in
      record {
        square = sym (F.product-zero (power m α (2 * t))) ∙ ap (product m (power m α (2 * t))) C.square ∙ twice (2 * t) (2 * 0) a
            ∙ ap (λ (n : ℕ). product m (power m α n) a) two;
        linear = ap (product m (power m α t)) C.linear ∙ twice t 0 b ∙ ap (λ (n : ℕ). product m (power m α n) b) one;
      }

  -- it has one root, for no two powers of α are the same
  pub linear-root : {a b x c e : ℕ} → Carried m a b 0 0 x → x ≢ 0 → e < order m - 1 → product m (power m α e) x ≡ c
      → Root m a b c 0 e
  linear-root {a} {b} {x} {c} {e} C n h r = record {
    before = λ t z l. test-none (linear-at C t) (λ f. other t l (sym (F.zero-add _) ∙ f));
    root = test-root E (F.zero-add c);
  }
    where
      E : Carried m a b e 0 c
      E = subst (Carried m a b e 0) r (linear-at C e)

      other : (t : ℕ) → t < e → product m (power m α t) x ≡ c → ⊥
      other t l f =
          let d = F.α-distinct t e (omega arith) h
          (F.product-cancel x _ _ n (carried-linear C).symbol (F.power-lt α t) (F.power-lt α e)
          (F.product-comm x _ ∙ f ∙ sym r ∙ F.product-comm _ x))
          in
          omega arith

pub ratio-root : {m a b d x c n e : ℕ} → LinearRatio m d x c n → e < 127 → (x % 128 ≢ 0 → c % 128 ≢ 0 → product 7 (power 7 α e) (x % 128) ≡ c % 128)
    → Carried m a b 0 d x → Root m a b c 0 e
ratio-root {m} {a} {b} {d} {x} {c} {n} {e} R h r C = subst (λ (k : ℕ). Root k a b c 0 e) (sym R.width) (linear-root 7 refl C7 R.factor h ratio)
  where
    C7 : Carried 7 a b 0 0 x
    C7 = subst (λ (k : ℕ). Carried k a b 0 0 x) R.width (subst (λ (k : ℕ). Carried m a b 0 k x) R.plain C)

    ex : x % 128 ≡ x
    ex = mod-eq_of_lt (carried-linear 7 refl C7).symbol

    ec : c % 128 ≡ c
    ec = mod-eq_of_lt R.symbol

    ratio : product 7 (power 7 α e) x ≡ c
    ratio = ap (product 7 (power 7 α e)) (sym ex) ∙ r (λ z. R.factor (sym ex ∙ z)) (λ z. R.nonzero (sym ec ∙ z)) ∙ ec
