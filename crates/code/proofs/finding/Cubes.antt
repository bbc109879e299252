-- Where the distance is 5, cubing is one to one: were there two symbols x and y with the same cube, then x², xy and y², each at the data place
-- whose point it is, and their cube at p_2 would make a codeword with four symbols other than 0. Assumes nothing.
use Rattle.field.proofs.Base.{◌≡◌, refl, sym, ap, ap₂, ◌∙◌, ◌≢◌, Bool, true, false, cond, List, [], ◌∷◌, map, ℕ, zero, suc, ◌+◌, ◌-◌, ◌≤◌, ◌<◌}
use Rattle.field.proofs.Base.{ℕ_discrete, arith, ne_eqb, lt-ltb, le-ltb, ltb, length}
use mathlib.Core.HLevel.{dec→stable}
use Rattle.field.specs.Polynomial.{add}
use Rattle.field.specs.Field.{order, product, power, α}
use Rattle.field.specs.Question.{all_below}
use Rattle.field.proofs.Laws.{IsField, ExponentOf}
use Rattle.code.specs.Word.{checks, places, syndrome}
use Rattle.code.specs.inner.Place.{column}
use Rattle.code.specs.Erasure.{member, distinct, masked}
use Rattle.code.specs.inner.Locate.{point}
use Rattle.code.specs.inner.Beside.{Injective}
use Rattle.code.proofs.Algebra.{add-cancel, add-of-eq, square, power-times}
use Rattle.code.proofs.Sums.{total-le, syndrome-add}
use Rattle.code.proofs.Members.{members-le}
use Rattle.code.proofs.distance.Points.{one-injective, two-injective}
use Rattle.code.proofs.distance.DistanceLaw.{nonzero, Distance}
use Rattle.code.proofs.Columns.{combine, column-unit, column-none, masked_small, syndrome-masked}
use Rattle.code.proofs.distance.Unique.{nonzero-le}
use Rattle.code.proofs.finding.Locating.{column-point}

module _ {m : ℕ} (F : IsField m) (D : Distance m 5) where
  -- four columns are independent: symbols v at the places ls that make five zero syndromes are 0
  independent : (v : ℕ → ℕ) → ((p : ℕ) → v p < order m) → (ls : List ℕ) → length ls < 5 → distinct ls ≡ true → all_below (places m) ls ≡ true
      → ((k : ℕ) → k < checks → combine m ls (map v ls) k ≡ 0) → (p : ℕ) → p < places m → member p ls ≡ true → v p ≡ 0
  independent v lt ls few ds bs rows p h i =
      sym (ap (λ (t : Bool). add (v p) (cond t 0 (v p))) i ∙ F.add-zero _)
      ∙ D (λ p. add (v p) (masked ls v p)) (λ p h. F.add-lt _ _ (lt p) (masked_small F ls v p (λ o. lt p)))
      (λ k h. syndrome-add F v (masked ls v) k ∙ F.add_comm _ _
      ∙ ap (add (syndrome m (masked ls v) k)) (syndrome-masked F ls ds bs v (λ p l. lt p) k h) ∙ add-cancel F _ _ ∙ rows k h)
      (omega (
        arith,
        members-le (places m) ls,
        total-le (λ p. nonzero (add (v p) (masked ls v p))) (λ p. cond (member p ls) 1 0) (places m)
            (λ p h. inside (v p) (member p ls)),
      )) p h
    where
      inside : (n : ℕ) (t : Bool) → nonzero (add n (cond t 0 n)) ≤ cond t 1 0
      inside n true = nonzero-le (add n 0)
      inside n false = omega (arith, ap nonzero (F.add-self n))

  -- ---- u² + uv + v², which is 0 where u and v have the same cube, since u + v times it is

  abbrev rest : ℕ → ℕ → ℕ
  rest u v = add (product m u u) (add (product m u v) (product m v v))

  rest-zero : (u v : ℕ) → u < order m → v < order m → power m u 3 ≡ power m v 3 → u ≢ v → rest u v ≡ 0
  rest-zero u v hu hv e d =
      F.no-zero-divisors (add u v) (rest u v) (λ n. d (F.eq-of-add u v n)) (F.add-lt u v hu hv)
      (F.add-lt _ _ (F.product_lt _ _) (F.add-lt _ _ (F.product_lt _ _) (F.product_lt _ _)))
      (expand ∙ add-of-eq F _ _ (sym (cube u hu) ∙ e ∙ cube v hv))
    where
      expand : product m (add u v) (rest u v) ≡ add (product m u (product m u u)) (product m v (product m v v))
      expand = simp (F.product-add, F.add-product, F.add_assoc, F.product-left-comm, F.product-comm, add-cancel F)

      cube : (u : ℕ) → u < order m → power m u 3 ≡ product m u (product m u u)
      cube u h = F.power-suc u 2 ∙ ap (product m u) (square F u h)

  -- ---- the data place whose point is z

  abbrev place : {z : ℕ} → ExponentOf m z → ℕ
  place Z = checks + Z.exponent

  place-point : {z : ℕ} (Z : ExponentOf m z) → point m (place Z) ≡ z
  place-point Z = let e : checks + Z.exponent - checks ≡ Z.exponent = omega arith in ap (power m α) e ∙ Z.is-power

  place-lt : {z : ℕ} (Z : ExponentOf m z) → place Z < places m
  place-lt Z = omega (arith, Z.below)

  place-ne : {y z : ℕ} (Y : ExponentOf m y) (Z : ExponentOf m z) → y ≢ z → place Y ≢ place Z
  place-ne Y Z d e = d (sym (place-point Y) ∙ ap (point m) e ∙ place-point Z)

  -- ---- two symbols with the same cube

  module _ (x y : ℕ) (hx : x < order m) (hy : y < order m) (e : power m x 3 ≡ power m y 3) (d : x ≢ y) where
    -- neither is 0, since the other would be too
    symbol-ne : (u v : ℕ) → v < order m → power m u 3 ≡ power m v 3 → u ≢ v → u ≢ 0
    symbol-ne u v l s n i = F.power-nonzero v 3 (λ j. n (i ∙ sym j)) l (sym s ∙ ap (λ (t : ℕ). power m t 3) i ∙ F.zero-power 2)

    nx : x ≢ 0
    nx = symbol-ne x y hy e d

    ny : y ≢ 0
    ny = symbol-ne y x hx (sym e) (λ i. d (sym i))

    exponent : (u v : ℕ) → u ≢ 0 → v ≢ 0 → u < order m → v < order m → ExponentOf m (product m u v)
    exponent u v nu nv hu hv = F.α-generates _ (F.product-nonzero u v nu hu nv hv) (F.product_lt u v)

    abbrev c : ℕ
    c = product m (power m x 3) (power m x 3)

    abbrev value : ℕ → ℕ
    value p = cond (ltb p checks) c (point m p)

    value-lt : (p : ℕ) → value p < order m
    value-lt p = go (ltb p checks)
      where
        go : (t : Bool) → cond t c (point m p) < order m
        go true = F.product_lt _ _
        go false = F.power-lt _ _

    -- what uv at its place adds to row k
    term : (u v : ℕ) (Z : ExponentOf m (product m u v)) (k : ℕ)
        → product m (column m (place Z) k) (value (place Z)) ≡ product m (power m u (suc k)) (power m v (suc k))
    term u v Z k =
        ap₂ (product m) (column-point F (place Z) k (omega arith) ∙ ap (λ (n : ℕ). power m n k) (place-point Z))
        (ap (λ (t : Bool). cond t c (point m (place Z))) (le-ltb (place Z) checks (omega arith)) ∙ place-point Z)
        ∙ F.product-comm _ _ ∙ sym (F.power-suc _ k) ∙ F.power-product u v (suc k)

    abbrev row : ℕ → ℕ
    row k = add (product m (column m 2 k) c) (rest (power m x (suc k)) (power m y (suc k)))

    row_other : (k : ℕ) → 2 ≢ k → power m x (suc k) ≢ power m y (suc k) → row k ≡ 0
    row_other k n s =
        ap₂ (λ (i j : ℕ). add (product m i c) j) (column-none m 2 k (omega arith) n) (rest-zero _ _ (F.power-lt _ _) (F.power-lt _ _) cubes s)
        ∙ F.add-zero _ ∙ F.zero-product _
      where
        cubes : power m (power m x (suc k)) 3 ≡ power m (power m y (suc k)) 3
        cubes =
            F.power-power x (suc k) 3 ∙ power-times F x 3 (suc k) ∙ ap (λ (n : ℕ). power m n (suc k)) e
            ∙ sym (F.power-power y (suc k) 3 ∙ power-times F y 3 (suc k))

    -- powers of x and y that differ do so with 3 more
    more : (k : ℕ) → power m x k ≢ power m y k → power m x (3 + k) ≢ power m y (3 + k)
    more k n i =
        n (F.product-cancel (power m x 3) _ _ (F.power-nonzero x 3 nx hx) (F.power-lt _ _) (F.power-lt _ _) (F.power-lt _ _)
        (sym (F.power-add x 3 k) ∙ i ∙ F.power-add y 3 k ∙ ap (λ (n : ℕ). product m n (power m y k)) (sym e)))

    row_zero : (k : ℕ) → k < checks → row k ≡ 0
    row_zero zero h = row_other 0 (λ i. omega arith) (λ i. d (one-injective F x y hx hy i))
    row_zero (suc zero) h = row_other 1 (λ i. omega arith) (λ i. d (two-injective F x y hx hy i))
    row_zero (suc (suc zero)) h =
        ap₂ (λ (i j : ℕ). add (product m i c) (rest (power m x 3) j)) (column-unit m 2 h) (sym e)
        ∙ ap₂ add (F.one_product c (F.product_lt _ _)) (add-cancel F c c) ∙ F.add-self c
    row_zero (suc (suc (suc zero))) h = row_other 3 (λ i. omega arith) (more 1 (λ i. d (one-injective F x y hx hy i)))
    row_zero (suc (suc (suc (suc zero)))) h = row_other 4 (λ i. omega arith) (more 2 (λ i. d (two-injective F x y hx hy i)))
    row_zero (suc (suc (suc (suc (suc k))))) h = absurd (omega arith)

    no-two : ⊥
    unfolding combine
    no-two =
        let X = exponent x x nx nx hx hx in
        let Y = exponent x y nx ny hx hy in
        let Z = exponent y y ny ny hy hy in
        let n = F.power-nonzero x 3 nx hx in
        F.product-nonzero _ _ n (F.power-lt x 3) n (F.power-lt x 3)
        (independent value value-lt (2 ∷ place X ∷ place Y ∷ place Z ∷ []) (omega arith)
        (rw (
          ne_eqb 2 (place X) (λ i. omega arith),
          ne_eqb 2 (place Y) (λ i. omega arith),
          ne_eqb 2 (place Z) (λ i. omega arith),
          ne_eqb (place X) (place Y) (place-ne X Y (λ i. d (F.product-cancel x x y nx hx hx hy i))),
          ne_eqb (place X) (place Z) (place-ne X Z (λ i. d (F.square-injective x y hx hy i))),
          ne_eqb (place Y) (place Z) (place-ne Y Z (λ i. d (F.product-cancel y x y ny hy hx hy (F.product-comm y x ∙ i)))),
        ))
        (rw (
          lt-ltb 2 (places m) (omega arith),
          lt-ltb (place X) (places m) (place-lt X),
          lt-ltb (place Y) (places m) (place-lt Y),
          lt-ltb (place Z) (places m) (place-lt Z),
        ))
        (λ k h. ap (add _) (ap₂ add (term x x X k) (ap₂ add (term x y Y k) (F.add-zero _ ∙ term y y Z k))) ∙ row_zero k h)
        2 (omega arith) refl)

  pub cubes-five : Injective m 3
  cubes-five x y hx hy e = dec→stable (ℕ_discrete x y) (no-two x y hx hy e)
