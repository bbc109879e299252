-- Two points with their values from four power sums: the coefficients of a quadratic that has the two points as roots. Assumes nothing.
use Rattle.field.proofs.Base.{◌≡◌, sym, ap, ap₂, ◌∙◌, ◌≢◌, ℕ, suc, ◌<◌, arith}
use Rattle.field.specs.Polynomial.{add}
use Rattle.field.specs.Field.{order, product, power, inverse}
use Rattle.field.proofs.Laws.{IsField}
use Rattle.code.proofs.Algebra.{add-cancel}

-- the coefficients of the locator
abbrev pub leading : ℕ → (ℕ → ℕ) → ℕ
leading m s = add (product m (s 1) (s 1)) (product m (s 0) (s 2))

abbrev pub middle : ℕ → (ℕ → ℕ) → ℕ
middle m s = add (product m (s 1) (s 2)) (product m (s 0) (s 3))

abbrev pub constant : ℕ → (ℕ → ℕ) → ℕ
constant m s = add (product m (s 2) (s 2)) (product m (s 1) (s 3))

-- the sums 0 to 3 are those of the points x and y with the values u and v
pub record TwoPoints (m : ℕ) (s : ℕ → ℕ) (x y u v : ℕ) : Type 0 where
  pub row0 : s 0 ≡ add u v
  pub row1 : s 1 ≡ add (product m x u) (product m y v)
  pub row2 : s 2 ≡ add (product m x (product m x u)) (product m y (product m y v))
  pub row3 : s 3 ≡ add (product m x (product m x (product m x u))) (product m y (product m y (product m y v)))

module _ {m : ℕ} (F : IsField m) where
  pub quotient-back : (x t : ℕ) → x < order m → t ≢ 0 → t < order m → product m (product m x t) (inverse m t) ≡ x
  quotient-back x t hx n h =
      F.product-assoc x t (inverse m t) ∙ ap (product m x) (F.product-inverse t n h) ∙ F.product-one x hx

  -- v·x^(k+1) is x times v·x^k
  pub term-zero : (x v : ℕ) → v < order m → product m (power m x 0) v ≡ v
  term-zero x v h = ap (λ (n : ℕ). product m n v) (F.power_zero x) ∙ F.one_product v h

  pub term-suc : (x k v : ℕ) → product m (power m x (suc k)) v ≡ product m x (product m (power m x k) v)
  term-suc x k v = ap (λ (n : ℕ). product m n v) (F.power-suc x k) ∙ F.product-assoc x (power m x k) v

  -- power sums of two points
  pub two-points : (s : ℕ → ℕ) (x y u v : ℕ) → u < order m → v < order m
      → ((k : ℕ) → k < 4 → s k ≡ add (product m (power m x k) u) (product m (power m y k) v)) → TwoPoints m s x y u v
  two-points s x y u v hu hv e = record {
    row0 = e 0 (omega arith) ∙ ap₂ add (at0 x u hu) (at0 y v hv);
    row1 = e 1 (omega arith) ∙ ap₂ add (at1 x u hu) (at1 y v hv);
    row2 = e 2 (omega arith) ∙ ap₂ add (at2 x u hu) (at2 y v hv);
    row3 = e 3 (omega arith) ∙ ap₂ add (at3 x u hu) (at3 y v hv);
  }
    where
      at0 : (z n : ℕ) → n < order m → product m (power m z 0) n ≡ n
      at0 = term-zero

      at1 : (z n : ℕ) → n < order m → product m (power m z 1) n ≡ product m z n
      at1 z n h = term-suc z 0 n ∙ ap (product m z) (at0 z n h)

      at2 : (z n : ℕ) → n < order m → product m (power m z 2) n ≡ product m z (product m z n)
      at2 z n h = term-suc z 1 n ∙ ap (product m z) (at1 z n h)

      at3 : (z n : ℕ) → n < order m → product m (power m z 3) n ≡ product m z (product m z (product m z n))
      at3 z n h = term-suc z 2 n ∙ ap (product m z) (at2 z n h)

  module _ {s : ℕ → ℕ} {x y u v : ℕ} (T : TwoPoints m s x y u v) where
    pub leading-is : leading m s ≡ product m (product m u v) (product m (add x y) (add x y))
    leading-is =
        simp (T.row0, T.row1, T.row2, F.add-product, F.product-add, F.product-assoc, F.product-left-comm, F.product-comm, F.add_assoc, F.add_left_comm, F.add_comm, F.add-self, add-cancel F, F.zero-add)

    pub middle-is : middle m s ≡ product m (add x y) (leading m s)
    middle-is =
        simp (T.row0, T.row1, T.row2, T.row3, F.add-product, F.product-add, F.product-assoc, F.product-left-comm, F.product-comm, F.add_assoc, F.add_left_comm, F.add_comm, F.add-self, add-cancel F, F.zero-add)

    pub constant-is : constant m s ≡ product m (product m x y) (leading m s)
    constant-is =
        simp (T.row0, T.row1, T.row2, T.row3, F.add-product, F.product-add, F.product-assoc, F.product-left-comm, F.product-comm, F.add_assoc, F.add_left_comm, F.add_comm, F.add-self, add-cancel F, F.zero-add)

    module _ (hx : x < order m) (hy : y < order m) (d : x ≢ y) (nu : u ≢ 0) (hu : u < order m) (nv : v ≢ 0) (hv : v < order m) where
      apart : add x y ≢ 0
      apart e = d (F.eq-of-add x y e)

      -- the second value, from the first two sums
      pub second-value : product m (add (s 1) (product m x (s 0))) (inverse m (add x y)) ≡ v
      second-value =
          ap (λ (n : ℕ). product m n (inverse m (add x y))) multiple ∙ quotient-back v (add x y) hv apart (F.add-lt x y hx hy)
        where
          multiple : add (s 1) (product m x (s 0)) ≡ product m v (add x y)
          multiple =
              simp (T.row0, T.row1, F.product-add, F.product-comm, F.add_assoc, F.add_left_comm, F.add_comm, F.add-self, add-cancel F, F.zero-add, F.add-zero)

      pub leading-nonzero : leading m s ≢ 0
      leading-nonzero e =
          F.product-nonzero _ _ (F.product-nonzero u v nu hu nv hv) (F.product_lt u v)
          (F.product-nonzero _ _ apart (F.add-lt x y hx hy) apart (F.add-lt x y hx hy)) (F.product_lt _ _) (sym leading-is ∙ e)
