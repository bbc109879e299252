-- A quadratic with two roots among the powers of α: the search finds them, and so does the half-trace. Assumes nothing.
use Rattle.field.proofs.Base.{◌≡◌, refl, sym, ap, ap₂, ◌∙◌, subst, ◌≢◌, ◌⊎◌, inl, inr, ℕ, ◌+◌, ◌-◌, ◌%◌, ◌≤◌, ◌<◌, mod-eq_of_lt, arith}
use Rattle.field.specs.Polynomial.{add}
use Rattle.field.specs.Field.{order, product, power, inverse, α}
use Rattle.field.specs.inner.Operand.{Operand}
use Rattle.field.specs.inner.Bytes.{multiplied, inverted}
use Rattle.field.specs.inner.HalfTrace.{half_trace}
use Rattle.field.proofs.Laws.{IsField}
use Rattle.field.proofs.Widths.{field_of}
use Rattle.field.proofs.Bytes.{multiplied-product, inverted-inverse}
use Rattle.field.proofs.HalfTrace.{half-trace-root}
use Rattle.code.specs.inner.Scan.{value_at, Rootless, Root, Factored}
use Rattle.code.proofs.Algebra.{add-cancel, square, power-times}
use Rattle.code.proofs.finding.Finding.{least-root}

module _ {m : ℕ} (F : IsField m) {a b c i j : ℕ} (Q : Factored m a b c i j) (ha : a < order m) (l : i < j) (h : j < order m - 1) where
  abbrev x : ℕ
  x = power m α i

  abbrev y : ℕ
  y = power m α j

  apart : x ≢ y
  apart e = let d = F.α-distinct i j (omega arith) h e in omega arith

  -- ---- the search

  factor : (a x y z : ℕ) → add (add (product m (product m z z) a) (product m z (product m (add x y) a))) (product m (product m x y) a)
      ≡ product m a (product m (add z x) (add z y))
  factor a x y z =
      simp (F.add-product, F.product-add, F.product-assoc, F.product-left-comm, F.product-comm, F.add_assoc, F.add_left_comm, F.add_comm, F.add-self, add-cancel F, F.zero-add)

  value-is : (t : ℕ) → value_at m a b c t ≡ product m a (product m (add (power m α t) x) (add (power m α t) y))
  value-is t =
      ap₂ add (ap₂ add (ap (λ (n : ℕ). product m n a) (power-times F α t 2 ∙ square F _ (F.power-lt α t))) (ap (product m (power m α t)) Q.sum)) Q.both
      ∙ factor a (power m α i) (power m α j) (power m α t)

  first-zero : value_at m a b c i ≡ 0
  first-zero = value-is i ∙ simp (F.add-self, F.zero-product, F.product-zero)

  second-zero : value_at m a b c j ≡ 0
  second-zero = value-is j ∙ simp (F.add-self, F.product-zero)

  no_other : (t : ℕ) → t < order m - 1 → t ≢ i → t ≢ j → value_at m a b c t ≢ 0
  no_other t lt di dj e =
      F.product-nonzero a _ Q.leading ha
      (F.product-nonzero _ _ (λ f. di (F.α-distinct t i lt (omega arith) (F.eq-of-add _ _ f))) (F.add-lt _ _ (F.power-lt α t) (F.power-lt α i))
      (λ f. dj (F.α-distinct t j lt h (F.eq-of-add _ _ f))) (F.add-lt _ _ (F.power-lt α t) (F.power-lt α j)))
      (F.product_lt _ _) (sym (value-is t) ∙ e)

  pub low-root : (k : ℕ) → Root m a b c 0 k → k ≡ i
  low-root k S =
      least-root m a b c 0 k S (omega arith) i (omega arith) first-zero (λ t z lt. no_other t (omega arith) (λ e. omega arith) (λ e. omega arith))

  pub high-root : (k r : ℕ) → k ≡ i → Root m a b c (k + 1) r → k + 1 ≤ r → r ≡ j
  high-root k r ek S from =
      least-root m a b c (k + 1) r S from j (omega arith) second-zero (λ t z lt. no_other t (omega arith) (λ e. omega arith) (λ e. omega arith))

  -- there are roots to be found
  pub low-there : (n : ℕ) → j < n → Rootless m a b c 0 n → ⊥
  low-there n lj N = N i (omega arith) (omega arith) first-zero

  pub high-there : (n k : ℕ) → j < n → k ≡ i → Rootless m a b c (k + 1) n → ⊥
  high-there n k lj ek N = N j (omega arith) lj second-zero

  -- ---- the half-trace

  linear-nonzero : b ≢ 0
  linear-nonzero e =
      F.product-nonzero _ a (λ f. apart (F.eq-of-add _ _ f)) (F.add-lt _ _ (F.power-lt α i) (F.power-lt α j)) Q.leading ha (sym Q.sum ∙ e)

  module _ (lb : b < order m) (inv r q d : ℕ) (ei : inv ≡ inverse m b) (er : r ≡ product m a inv) (eq : q ≡ product m c inv) (ed : d ≡ product m q r) where
    -- r is the inverse of the sum of the roots
    unit : product m (add x y) r ≡ 1
    unit =
        ap (product m (add (power m α i) (power m α j))) er ∙ sym (F.product-assoc _ _ _)
        ∙ ap₂ (product m) (sym Q.sum) ei ∙ F.product-inverse b linear-nonzero lb

    small : r < order m
    small = subst (λ (n : ℕ). n < order m) (sym er) (F.product_lt _ _)

    nonzero : r ≢ 0
    nonzero e =
        let z : ◌≡◌ {A = ℕ} 0 1 = sym (F.product-zero (add x y)) ∙ ap (product m (add x y)) (sym e) ∙ unit in
        omega arith

    -- the roots, divided by their sum
    one : add (product m x r) (product m y r) ≡ 1
    one = sym (F.add-product x y r) ∙ unit

    pub other : product m y r ≡ add (product m x r) 1
    other = sym (add-cancel F (product m x r) (product m y r)) ∙ ap (add (product m x r)) one

    rest-is : q ≡ product m (product m x y) r
    rest-is =
        eq ∙ ap (λ (n : ℕ). product m n inv) Q.both ∙ F.product-assoc _ _ _ ∙ ap (product m (product m (power m α i) (power m α j))) (sym er)

    pub quadratic : d ≡ add (product m (product m x r) (product m x r)) (product m x r)
    quadratic =
        ed ∙ ap (λ (n : ℕ). product m n r) rest-is ∙ regroup x y r ∙ ap (product m (product m x r)) other
        ∙ F.product-add _ _ _ ∙ ap (add (product m (product m x r) (product m x r))) (F.product-one _ (F.product_lt x r))
      where
        regroup : (x y r : ℕ) → product m (product m (product m x y) r) r ≡ product m (product m x r) (product m y r)
        regroup x y r = simp (F.product-assoc, F.product-left-comm, F.product-comm)

    -- the exponent of a root from its quotient
    root-of : (k e : ℕ) → k < order m - 1 → e < order m - 1 → product m (power m α e) r ≡ product m (power m α k) r → e ≡ k
    root-of k e lk le f =
        F.α-distinct e k le lk
        (F.product-cancel r _ _ nonzero small (F.power-lt α e) (F.power-lt α k) (F.product-comm r _ ∙ f ∙ F.product-comm _ r))

    module _ (e f : ℕ) (le : e < order m - 1) (lf : f < order m - 1) (s t : ℕ) (gs : s < order m → s ≢ 0 → product m (power m α e) r ≡ s)
        (gt : t < order m → t ≢ 0 → product m (power m α f) r ≡ t) where
      term-nonzero : (k : ℕ) → product m (power m α k) r ≢ 0
      term-nonzero k = F.product-nonzero _ r (F.α-nonzero k) (F.power-lt α k) nonzero small

      symbol : (k : ℕ) {s : ℕ} → s ≡ product m k r → s < order m
      symbol k e = subst (λ (n : ℕ). n < order m) (sym e) (F.product_lt k r)

      pub straight : s ≡ product m x r → t ≡ product m y r → (e ≡ i) × (f ≡ j)
      straight es et = (
        root-of i e (omega arith) le (gs (symbol x es) (λ z. term-nonzero i (sym es ∙ z)) ∙ es),
        root-of j f h lf (gt (symbol y et) (λ z. term-nonzero j (sym et ∙ z)) ∙ et),
      )

      pub crossed : s ≡ product m y r → t ≡ product m x r → (e ≡ j) × (f ≡ i)
      crossed es et = (
        root-of j e h le (gs (symbol y es) (λ z. term-nonzero j (sym es ∙ z)) ∙ es),
        root-of i f (omega arith) lf (gt (symbol x et) (λ z. term-nonzero i (sym et ∙ z)) ∙ et),
      )

      -- the two roots, in one order or the other
      pub halved : (g : add s 1 ≡ t) → (s ≡ product m x r) ⊎ (s ≡ add (product m x r) 1) → ((e ≡ i) × (f ≡ j)) ⊎ ((e ≡ j) × (f ≡ i))
      halved g (inl z) = inl (straight z (sym g ∙ ap (λ (n : ℕ). add n 1) z ∙ sym other))
      halved g (inr z) = inr (crossed (z ∙ sym other) (sym g ∙ ap (λ (n : ℕ). add n 1) z ∙ back))
        where
          back : add (add (product m x r) 1) 1 ≡ product m x r
          back = F.add_assoc _ _ _ ∙ ap (add (product m x r)) (F.add-self 1) ∙ F.add-zero _

-- ---- the roots by the half-trace, as the code makes them

abbrev F₇ : IsField 7
F₇ = field_of 7 refl

pub halved-roots : (a b c inv r q d s t e f low high : ℕ) → a < 128 → b < 128 → c < 128 → inv ≡ inverted 7 b → r ≡ multiplied 7 a inv
    → q ≡ multiplied 7 c inv → d ≡ multiplied 7 q r → s ≡ half_trace (d % 128) → t ≡ add s 1
    → e < 127 → (r % 128 ≢ 0 → s % 128 ≢ 0 → product 7 (power 7 α e) (r % 128) ≡ s % 128)
    → f < 127 → (r % 128 ≢ 0 → t % 128 ≢ 0 → product 7 (power 7 α f) (r % 128) ≡ t % 128)
    → (e < f → (low ≡ e) × (high ≡ f)) → (f < e → (low ≡ f) × (high ≡ e))
    → (i j : ℕ) → i < j → j < 127 → Factored 7 a b c i j → (low ≡ i) × (high ≡ j)
halved-roots a b c inv r q d s t e f low high la lb lc ei er eq ed es et le ge lf gf up down i j l h Q = pick (halved F₇ Q la l h lb inv r q d ei' er' eq' ed' e f le lf s t
    (λ small n. gives e s ge small n) (λ small n. gives f t gf small n) (sym et) (half-trace-root d s _ es (F₇.product_lt (power 7 α i) r)
    (quadratic F₇ Q la l h lb inv r q d ei' er' eq' ed')))
  where
    operand : (n : ℕ) → n < 128 → Operand 7 n
    operand n small = record { width = refl; symbol = small }

    ei' : inv ≡ inverse 7 b
    ei' = ei ∙ inverted-inverse (operand b lb)

    li : inv < 128
    li = subst (λ (n : ℕ). n < 128) (sym ei') (F₇.inverse-lt b)

    er' : r ≡ product 7 a inv
    er' = er ∙ multiplied-product (operand a la) (operand inv li)

    lr : r < 128
    lr = subst (λ (n : ℕ). n < 128) (sym er') (F₇.product_lt _ _)

    eq' : q ≡ product 7 c inv
    eq' = eq ∙ multiplied-product (operand c lc) (operand inv li)

    ed' : d ≡ product 7 q r
    ed' = ed ∙ multiplied-product (operand q (subst (λ (n : ℕ). n < 128) (sym eq') (F₇.product_lt _ _))) (operand r lr)

    gives : (e s : ℕ) → (r % 128 ≢ 0 → s % 128 ≢ 0 → product 7 (power 7 α e) (r % 128) ≡ s % 128) → s < 128 → s ≢ 0 → product 7 (power 7 α e) r ≡ s
    gives e s g small n =
        let rr : r % 128 ≡ r = mod-eq_of_lt lr in
        let ss : s % 128 ≡ s = mod-eq_of_lt small in
        ap (product 7 (power 7 α e)) (sym rr)
        ∙ g (λ z. nonzero F₇ Q la l h lb inv r q d ei' er' eq' ed' (sym rr ∙ z)) (λ z. n (sym ss ∙ z)) ∙ ss

    pick : ((e ≡ i) × (f ≡ j)) ⊎ ((e ≡ j) × (f ≡ i)) → (low ≡ i) × (high ≡ j)
    pick (inl p) = let u = up (omega (arith, p.0, p.1)) in (u.0 ∙ p.0, u.1 ∙ p.1)
    pick (inr p) = let u = down (omega (arith, p.0, p.1)) in (u.0 ∙ p.1, u.1 ∙ p.0)
