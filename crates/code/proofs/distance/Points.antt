-- Power sums of a few points: a point x with a value v adds v·x^k to row k. Where the points are distinct and neither a point nor a value
-- is 0, certain rows can't all be 0. One point at a time is eliminated, from two rows. Assumes nothing.
use Rattle.field.proofs.Base.{◌≡◌, refl, sym, ap, ap₂, ◌∙◌, subst, ◌≢◌, ℕ, zero, suc, ◌+◌, ◌≤◌, ◌<◌, not-suc-le-zero, le_of_suc-le-suc, arith}
use Rattle.field.specs.Polynomial.{add}
use Rattle.field.specs.Field.{order, product, power}
use Rattle.field.proofs.Laws.{IsField, CubeInjective}
use Rattle.code.specs.inner.Beside.{Injective}
use Rattle.code.proofs.Algebra.{square}

-- points with their values
pub data Points : Type 0 where
  none : Points
  term : ℕ → ℕ → Points → Points

abbrev pub size : Points → ℕ
size none = 0
size (term x v P) = suc (size P)

-- the power sum of row k
unfoldable pub row : ℕ → Points → ℕ → ℕ
row m none k = 0
row m (term x v P) k = add (product m (power m x k) v) (row m P k)

-- x is none of the points
abbrev pub Apart : ℕ → Points → Type 0
Apart x none = Unit {0}
Apart x (term y v P) = (x ≢ y) × Apart x P

-- distinct nonzero points with nonzero values
abbrev pub Proper : ℕ → Points → Type 0
Proper m none = Unit {0}
Proper m (term x v P) =
    record { point-lt : x < order m; point-ne : x ≢ 0; value-lt : v < order m; value-ne : v ≢ 0; apart : Apart x P; rest : Proper m P }

-- what is left without the point y: each value times x^g + y^g
unfoldable without : ℕ → ℕ → ℕ → Points → Points
without m g y none = none
without m g y (term x v P) = term x (product m v (add (power m x g) (power m y g))) (without m g y P)

size-without : (m g y : ℕ) (P : Points) → size (without m g y P) ≡ size P
unfolding without
size-without m g y none = refl
size-without m g y (term x v P) = ap suc (size-without m g y P)

apart-without : (m g y x : ℕ) (P : Points) → Apart x P → Apart x (without m g y P)
unfolding without
apart-without m g y x none a = tt
apart-without m g y x (term z v P) a = (a.0, apart-without m g y x P a.1)

module _ {m : ℕ} (F : IsField m) where
  regroup : (a b c v r s : ℕ) → add (add (product m (product m a b) v) r) (product m c (add (product m b v) s))
      ≡ add (product m b (product m v (add a c))) (add r (product m c s))
  regroup a b c v r s =
      simp (F.product-add, F.add_assoc, F.add_left_comm, F.add_comm, F.product-assoc, F.product-left-comm, F.product-comm)

  -- row g + k and y^g times row k make row k of what is left
  row-without : (g y : ℕ) (P : Points) (k : ℕ) → add (row m P (g + k)) (product m (power m y g) (row m P k)) ≡ row m (without m g y P) k
  unfolding row without
  row-without g y none k = ap (add 0) (F.product-zero (power m y g)) ∙ F.add-zero 0
  row-without g y (term x v P) k =
      ap (λ (n : ℕ). add (add (product m n v) (row m P (g + k))) (product m (power m y g) (row m (term x v P) k))) (F.power-add x g k)
      ∙ regroup (power m x g) (power m x k) (power m y g) v (row m P (g + k)) (row m P k)
      ∙ ap (add (product m (power m x k) (product m v (add (power m x g) (power m y g))))) (row-without g y P k)

  proper-without : (g : ℕ) → Injective m g → (y : ℕ) → y < order m → (P : Points) → Apart y P → Proper m P → Proper m (without m g y P)
  unfolding without
  proper-without g inj y hy none a p = tt
  proper-without g inj y hy (term x v P) a p = record {
    point-lt = p.point-lt;
    point-ne = p.point-ne;
    value-lt = F.product_lt _ _;
    value-ne = F.product-nonzero _ _ p.value-ne p.value-lt (λ e. a.0 (inj y x hy p.point-lt (sym (F.eq-of-add _ _ e))))
        (F.add-lt _ _ (F.power-lt x g) (F.power-lt y g));
    apart = apart-without m g y x P p.apart;
    rest = proper-without g inj y hy P a.1 p.rest;
  }

  -- if rows k and g + k are 0, row k of what is left is 0
  row_step : (g y v : ℕ) (P : Points) (k : ℕ) → row m (term y v P) k ≡ 0 → row m (term y v P) (g + k) ≡ 0 → row m (without m g y P) k ≡ 0
  unfolding row without
  row_step g y v P k e e' =
      sym (F.zero-add (row m (without m g y P) k))
      ∙ ap (λ (n : ℕ). add n (row m (without m g y P) k)) (sym (simp (F.add-self, F.product-zero)))
      ∙ sym (row-without g y (term y v P) k)
      ∙ ap₂ (λ (a b : ℕ). add a (product m (power m y g) b)) e' e
      ∙ F.zero-add _ ∙ F.product-zero (power m y g)

  -- if nothing is left, there is nothing but y, and no row of y alone is 0
  none_left : (g y v : ℕ) (P : Points) (k : ℕ) → Proper m (term y v P) → row m (term y v P) k ≡ 0 → without m g y P ≡ none → ⊥
  unfolding without row
  none_left g y v none k p e h =
      let n = F.power-nonzero y k p.point-ne p.point-lt in
      p.value-ne (F.no-zero-divisors _ _ n (F.power-lt y k) p.value-lt (sym (F.add-zero _) ∙ e))
  none_left g y v (term x u P) k p e h = let z : ◌≡◌ {A = ℕ} 0 1 = cc in omega arith

  -- one point is eliminated: if nothing can be left, the point can't be
  eliminate : (g : ℕ) → Injective m g → (y v : ℕ) (P : Points) (k d : ℕ) → suc (size P) ≤ suc d → Proper m (term y v P) → row m (term y v P) k ≡ 0
      → (size (without m g y P) ≤ d → Proper m (without m g y P) → without m g y P ≡ none) → term y v P ≡ none
  eliminate g inj y v P k d s p e rest = absurd (none_left g y v P k p e (rest
      (subst (λ (n : ℕ). n ≤ d) (sym (size-without m g y P)) (le_of_suc-le-suc s))
      (proper-without g inj y p.point-lt P p.apart p.rest)))

  pub one-injective : Injective m 1
  one-injective x y hx hy e = sym (F.power-one x hx) ∙ e ∙ F.power-one y hy

  pub two-injective : Injective m 2
  two-injective x y hx hy e = F.square-injective x y hx hy (sym (square F x hx) ∙ e ∙ square F y hy)

  -- d rows from k on are 0
  abbrev pub Zero : Points → ℕ → ℕ → Type 0
  Zero P k zero = Unit {0}
  Zero P k (suc d) = (row m P k ≡ 0) × Zero P (suc k) d

  zero-step : (y v : ℕ) (P : Points) (d k : ℕ) → Zero (term y v P) k (suc d) → Zero (without m 1 y P) k d
  zero-step y v P zero k z = tt
  zero-step y v P (suc d) k z =
      (row_step 1 y v P k z.0 (subst (λ (n : ℕ). row m (term y v P) n ≡ 0) (omega arith) z.1.0), zero-step y v P d (suc k) z.1)

  -- as many rows one after the other as there are points
  pub run : (d : ℕ) (P : Points) (k : ℕ) → size P ≤ d → Proper m P → Zero P k d → P ≡ none
  run zero none k s p z = refl
  run zero (term y v P) k s p z = absurd (not-suc-le-zero s)
  run (suc d) none k s p z = refl
  run (suc d) (term y v P) k s p z =
      eliminate 1 one-injective y v P k d s p z.0 (λ s' p'. run d (without m 1 y P) k s' p' (zero-step y v P d k z))

  -- two points, rows k and g + k
  pub two : (g : ℕ) → Injective m g → (P : Points) (k : ℕ) → size P ≤ 2 → Proper m P → row m P k ≡ 0 → row m P (g + k) ≡ 0 → P ≡ none
  two g inj none k s p e e' = refl
  two g inj (term y v P) k s p e e' =
      eliminate g inj y v P k 1 s p e (λ s' p'. run 1 (without m g y P) k s' p' (row_step g y v P k e e', tt))

  -- three points, rows 0, 1, 3, 4: this is where cubing must be one to one
  pub three : CubeInjective m → (P : Points) → size P ≤ 3 → Proper m P → row m P 0 ≡ 0 → row m P 1 ≡ 0 → row m P 3 ≡ 0 → row m P 4 ≡ 0 → P ≡ none
  three cube none s p e0 e1 e3 e4 = refl
  three cube (term y v P) s p e0 e1 e3 e4 = eliminate 1 one-injective y v P 0 2 s p e0
      (λ s' p'. two 3 cube (without m 1 y P) 0 s' p' (row_step 1 y v P 0 e0 e1) (row_step 1 y v P 3 e3 e4))
