-- One wrong data place beside erasures, from the sums outside the erasures: each erased data place is eliminated from the sums, and two of
-- what is left have the ratio of the wrong place. Assumes nothing.
use Rattle.field.proofs.Base.{◌≡◌, sym, ap, ap₂, ◌∙◌, subst, ◌≢◌, true, false, List, [], ◌∷◌, ℕ, ◌+◌, ◌-◌, ◌≤◌, ◌<◌, arith}
use Rattle.field.specs.Polynomial.{add}
use Rattle.field.specs.Field.{order, product, power}
use Rattle.field.specs.Question.{all_below}
use Rattle.field.proofs.Laws.{IsField}
use Rattle.code.specs.Word.{checks, places}
use Rattle.code.specs.inner.Place.{column}
use Rattle.code.specs.Erasure.{member}
use Rattle.code.proofs.distance.Points.{one-injective}
use Rattle.code.proofs.Columns.{combine}
use Rattle.code.specs.inner.Locate.{point}
use Rattle.code.specs.inner.Beside.{Injective, eliminate, Step}
use Rattle.code.proofs.finding.Pattern.{Pattern, checks-outside}
use Rattle.code.proofs.finding.Locating.{column-point, point-distinct}

module _ {m : ℕ} (F : IsField m) where
  -- what a data symbol x adds to row k
  abbrev pub term : ℕ → ℕ → ℕ → ℕ
  term z v k = product m (power m z k) v

  -- the column of a data place times its value
  pub column-term : (e : ℕ → ℕ) (p k : ℕ) → checks ≤ p → product m (column m p k) (e p) ≡ term (point m p) (e p) k
  column-term e p k h = ap (λ (n : ℕ). product m n (e p)) (column-point F p k h)

  -- ---- elimination

  pub eliminate-add : (h z : ℕ) (f g : ℕ → ℕ) (k : ℕ) → eliminate m h z (λ j. add (f j) (g j)) k ≡ add (eliminate m h z f k) (eliminate m h z g k)
  unfolding eliminate
  eliminate-add h z f g k = simp (F.product-add, F.add_assoc, F.add_left_comm, F.add_comm)

  -- a term with the point x gets the factor x^h + z^h
  pub eliminate-term : (h z x v k : ℕ) → eliminate m h z (term x v) k ≡ term x (product m v (add (power m x h) (power m z h))) k
  unfolding eliminate
  eliminate-term h z x v k =
      ap (λ (n : ℕ). add (product m n v) (product m (power m z h) (product m (power m x k) v))) (F.power-add x h k)
      ∙ simp (F.product-add, F.product-assoc, F.product-left-comm, F.product-comm)

  -- the term of the point itself goes
  pub eliminate-own : (h z v k : ℕ) → eliminate m h z (term z v) k ≡ 0
  eliminate-own h z v k = eliminate-term h z z v k ∙ simp (F.add-self, F.product-zero)

  pub eliminate-rows : (h z : ℕ) (s t : ℕ → ℕ) (k : ℕ) → s k ≡ t k → s (h + k) ≡ t (h + k) → eliminate m h z s k ≡ eliminate m h z t k
  unfolding eliminate
  eliminate-rows h z s t k e e' = ap₂ (λ (a b : ℕ). add a (product m (power m z h) b)) e' e

  -- ---- two rows of one point

  module _ (b : ℕ) (hb : checks ≤ b) (lb : b < places m) (g : ℕ) (inj : Injective m g) (u : ℕ → ℕ) (k v : ℕ) (nv : v ≢ 0) (hv : v < order m)
      (e : u k ≡ term (point m b) v k) (e' : u (g + k) ≡ term (point m b) v (g + k)) where
    step-nonzero : u k ≢ 0
    step-nonzero z =
        F.product-nonzero _ _ (F.power-nonzero (point m b) k (F.α-nonzero (b - checks)) (F.power-lt _ _)) (F.power-lt _ _) nv hv (sym e ∙ z)

    step-lt : u k < order m
    step-lt = subst (λ (n : ℕ). n < order m) (sym e) (F.product_lt _ _)

    step-next : u (g + k) ≡ product m (power m (point m b) g) (u k)
    step-next =
        e' ∙ ap (λ (n : ℕ). product m n v) (F.power-add (point m b) g k) ∙ F.product-assoc _ _ v
        ∙ ap (product m (power m (point m b) g)) (sym e)

    pub step_of : Step m g (u k) (u (g + k)) b
    step_of = record {
      small = step-lt;
      nonzero = step-nonzero;
      next = step-next;
      only = λ t h l d z.
          point-distinct F t b h l hb lb d (inj (point m t) (point m b) (F.power-lt _ _) (F.power-lt _ _)
          (F.product-cancel (u k) _ _ step-nonzero step-lt (F.power-lt _ _) (F.power-lt _ _)
          (F.product-comm (u k) _ ∙ sym z ∙ step-next ∙ F.product-comm _ (u k))));
    }

  factor-nonzero : (g b a v : ℕ) → Injective m g → checks ≤ b → b < places m → checks ≤ a → a < places m → b ≢ a → v ≢ 0 → v < order m
      → product m v (add (power m (point m b) g) (power m (point m a) g)) ≢ 0
  factor-nonzero g b a v inj hb lb ha la d nv hv =
      F.product-nonzero _ _ nv hv
      (λ z. point-distinct F b a hb lb ha la d (inj _ _ (F.power-lt _ _) (F.power-lt _ _) (F.eq-of-add _ _ z)))
      (F.add-lt _ _ (F.power-lt _ _) (F.power-lt _ _))

  -- ---- the wrong data place b beside the erasures es, with the sums s

  module _ (s e : ℕ → ℕ) (b : ℕ) (hb : checks ≤ b) (lb : b < places m) (nb : e b ≢ 0) where
    -- check places erased, or nothing
    module _ (cs : List ℕ) (bs : all_below checks cs ≡ true) (P : Pattern m s e (b ∷ cs)) where
      row-checks : (k : ℕ) → k < checks → member k cs ≡ false → s k ≡ term (point m b) (e b) k
      unfolding combine
      row-checks k h o = P.rows k h ∙ ap₂ add (column-term e b k hb) (checks-outside F e k h cs bs o) ∙ F.add-zero _

      pub step-checks : (g k : ℕ) → Injective m g → k < checks → member k cs ≡ false → g + k < checks → member (g + k) cs ≡ false → Step m g (s k) (s (g + k)) b
      step-checks g k inj h o h' o' =
          step_of b hb lb g inj s k (e b) nb (P.small b lb) (row-checks k h o) (row-checks (g + k) h' o')

    -- one data place erased, and check places cs
    module _ (a : ℕ) (ha : checks ≤ a) (la : a < places m) (d : b ≢ a) (cs : List ℕ) (bs : all_below checks cs ≡ true)
        (P : Pattern m s e (b ∷ a ∷ cs)) where
      row-data : (k : ℕ) → k < checks → member k cs ≡ false → s k ≡ add (term (point m b) (e b) k) (term (point m a) (e a) k)
      unfolding combine
      row-data k h o =
          P.rows k h
          ∙ ap₂ add (column-term e b k hb) (ap₂ add (column-term e a k ha) (checks-outside F e k h cs bs o) ∙ F.add-zero _)

      -- rows k and h + k without the erased symbol
      left-data : (h k : ℕ) → k < checks → member k cs ≡ false → h + k < checks → member (h + k) cs ≡ false
          → eliminate m h (point m a) s k ≡ term (point m b) (product m (e b) (add (power m (point m b) h) (power m (point m a) h))) k
      left-data h k l o l' o' =
          eliminate-rows h (point m a) s (λ j. add (term (point m b) (e b) j) (term (point m a) (e a) j)) k (row-data k l o) (row-data (h + k) l' o')
          ∙ eliminate-add h (point m a) (term (point m b) (e b)) (term (point m a) (e a)) k
          ∙ ap₂ add (eliminate-term h (point m a) (point m b) (e b) k) (eliminate-own h (point m a) (e a) k)
          ∙ F.add-zero _

      pub step-data : (h g k : ℕ) → Injective m h → Injective m g
          → k < checks → member k cs ≡ false → h + k < checks → member (h + k) cs ≡ false
          → g + k < checks → member (g + k) cs ≡ false → h + (g + k) < checks → member (h + (g + k)) cs ≡ false
          → Step m g (eliminate m h (point m a) s k) (eliminate m h (point m a) s (g + k)) b
      step-data h g k injh injg l o lh oh lg og lhg ohg =
          step_of b hb lb g injg (eliminate m h (point m a) s) k _ (factor-nonzero h b a (e b) injh hb lb ha la d nb (P.small b lb)) (F.product_lt _ _)
          (left-data h k l o lh oh) (left-data h (g + k) lg og lhg ohg)

    -- two data places erased
    module _ (a c : ℕ) (ha : checks ≤ a) (la : a < places m) (hc : checks ≤ c) (lc : c < places m) (da : b ≢ a) (dc : b ≢ c)
        (P : Pattern m s e (b ∷ a ∷ c ∷ [])) where
      row-two : (k : ℕ) → k < checks
          → s k ≡ add (term (point m b) (e b) k) (add (term (point m a) (e a) k) (term (point m c) (e c) k))
      unfolding combine
      row-two k h =
          P.rows k h ∙ ap₂ add (column-term e b k hb) (ap₂ add (column-term e a k ha) (F.add-zero _ ∙ column-term e c k hc))

      vb : ℕ
      vb = product m (e b) (add (power m (point m b) 1) (power m (point m a) 1))

      vc : ℕ
      vc = product m (e c) (add (power m (point m c) 1) (power m (point m a) 1))

      -- without the symbol at a
      left_one : (k : ℕ) → 1 + k < checks → eliminate m 1 (point m a) s k ≡ add (term (point m b) vb k) (term (point m c) vc k)
      unfolding vb vc
      left_one k l =
          eliminate-rows 1 (point m a) s (λ j. add (term (point m b) (e b) j) (add (term (point m a) (e a) j) (term (point m c) (e c) j))) k
          (row-two k (omega arith)) (row-two (1 + k) l)
          ∙ eliminate-add 1 (point m a) (term (point m b) (e b)) (λ j. add (term (point m a) (e a) j) (term (point m c) (e c) j)) k
          ∙ ap₂ add (eliminate-term 1 (point m a) (point m b) (e b) k)
          (eliminate-add 1 (point m a) (term (point m a) (e a)) (term (point m c) (e c)) k
          ∙ ap₂ add (eliminate-own 1 (point m a) (e a) k) (eliminate-term 1 (point m a) (point m c) (e c) k) ∙ F.zero-add _)

      -- and without that at c
      left-two : (k : ℕ) → 2 + k < checks
          → eliminate m 1 (point m c) (eliminate m 1 (point m a) s) k
          ≡ term (point m b) (product m vb (add (power m (point m b) 1) (power m (point m c) 1))) k
      left-two k l =
          eliminate-rows 1 (point m c) (eliminate m 1 (point m a) s) (λ j. add (term (point m b) vb j) (term (point m c) vc j)) k
          (left_one k (omega arith)) (left_one (1 + k) (omega arith))
          ∙ eliminate-add 1 (point m c) (term (point m b) vb) (term (point m c) vc) k
          ∙ ap₂ add (eliminate-term 1 (point m c) (point m b) vb k) (eliminate-own 1 (point m c) vc k)
          ∙ F.add-zero _

      pub step-two : (k : ℕ) → 3 + k < checks
          → Step m 1 (eliminate m 1 (point m c) (eliminate m 1 (point m a) s) k) (eliminate m 1 (point m c) (eliminate m 1 (point m a) s) (1 + k)) b
      unfolding vb
      step-two k l =
          step_of b hb lb 1 (one-injective F) (eliminate m 1 (point m c) (eliminate m 1 (point m a) s)) k _
          (factor-nonzero 1 b c vb (one-injective F) hb lb hc lc dc (factor-nonzero 1 b a (e b) (one-injective F) hb lb ha la da nb (P.small b lb)) (F.product_lt _ _))
          (F.product_lt _ _) (left-two k (omega arith)) (left-two (1 + k) (omega arith))
