-- The code's matrix by columns: a word's syndromes are the sum of the columns, each times its symbol, and what the erased places add to
-- them is the combination of the erased columns. Assumes nothing.
use Rattle.field.proofs.Base.{◌≡◌, refl, sym, ap, ap₂, ◌∙◌, ◌≢◌, Bool, true, false, cond, ◌||◌, List, [], ◌∷◌, map, ℕ, ◌+◌, ◌-◌, ◌*◌, ◌≤◌, ◌<◌, arith}
use Rattle.field.proofs.Base.{eq-eqb, ne_eqb, lt-ltb, le-ltb, eqb, ltb}
use Rattle.field.specs.Polynomial.{add}
use Rattle.field.specs.Field.{order, product, power, α}
use Rattle.field.specs.Question.{all_below}
use Rattle.field.proofs.Laws.{IsField}
use Rattle.field.proofs.Below.{below-head, below-tail}
use Rattle.field.proofs.Sums.{sum-cong, sum-split, sum-zero, sum-change}
use Rattle.code.specs.Word.{checks, places, items, sum, syndrome}
use Rattle.code.specs.inner.Place.{column}
use Rattle.code.specs.Erasure.{member, distinct, masked}
use Rattle.code.proofs.Algebra.{add-cancel}
use Rattle.code.proofs.Members.{distinct_head, distinct_tail}

-- row k of the columns at the places ls, each times its value
unfoldable pub combine : ℕ → List ℕ → List ℕ → ℕ → ℕ
combine m [] zs k = 0
combine m (l ∷ ls) [] k = 0
combine m (l ∷ ls) (z ∷ zs) k = add (product m (column m l k) z) (combine m ls zs k)

pub column-unit : (m k : ℕ) → k < checks → column m k k ≡ 1
unfolding column
column-unit m k h = rw (lt-ltb k checks h, eq-eqb k k refl)

pub column-none : (m p k : ℕ) → p < checks → p ≢ k → column m p k ≡ 0
unfolding column
column-none m p k h d = rw (lt-ltb p checks h, ne_eqb p k d)

pub column-power : (m p k : ℕ) → checks ≤ p → column m p k ≡ power m α (k * (p - checks))
unfolding column
column-power m p k h = rw (le-ltb p checks h)

column-data : (m i k : ℕ) → column m (checks + i) k ≡ power m α (k * i)
column-data m i k =
    let e : checks + i - checks ≡ i = omega arith in
    column-power m (checks + i) k (omega arith) ∙ ap (λ (n : ℕ). power m α (k * n)) e

module _ {m : ℕ} (F : IsField m) where
  pub column-lt : (p k : ℕ) → column m p k < order m
  unfolding column
  column-lt p k = go (ltb p checks) (eqb p k)
    where
      go : (s t : Bool) → cond s (cond t 1 0) (power m α (k * (p - checks))) < order m
      go true true = F.one-lt
      go true false = omega (arith, F.one-lt)
      go false t = F.power-lt α (k * (p - checks))

  column-check : (w : ℕ → ℕ) (k : ℕ) → k < checks → w k < order m → sum checks (λ p. product m (column m p k) (w p)) ≡ w k
  column-check w k h b =
      sum-change F checks (λ p. product m (column m p k) (w p)) (λ p. 0) k h
      (λ i j d. ap (λ (n : ℕ). product m n (w i)) (column-none m i k j d) ∙ F.zero-product (w i))
      ∙ ap₂ add (sum-zero F checks) (F.add-zero _ ∙ ap (λ (n : ℕ). product m n (w k)) (column-unit m k h) ∙ F.one_product (w k) b)
      ∙ F.zero-add (w k)

  -- the syndromes, uniformly over all places
  pub syndrome-columns : (w : ℕ → ℕ) (k : ℕ) → k < checks → w k < order m → syndrome m w k ≡ sum (places m) (λ p. product m (column m p k) (w p))
  syndrome-columns w k h b =
      let split : checks + items m ≡ places m = omega arith in
      ap₂ add (sym (column-check w k h b)) (sum-cong _ _ _ (λ i l. ap (λ (n : ℕ). product m n (w (checks + i))) (sym (column-data m i k))))
      ∙ sym (sum-split F checks (items m) (λ p. product m (column m p k) (w p)))
      ∙ ap (λ (n : ℕ). sum n (λ p. product m (column m p k) (w p))) split

  -- the syndromes of two words that differ at one place only
  syndrome-change : (u v : ℕ → ℕ) (p : ℕ) → p < places m → ((i : ℕ) → i < places m → i ≢ p → u i ≡ v i) → (k : ℕ) → k < checks
      → u k < order m → v k < order m → syndrome m u k ≡ add (syndrome m v k) (product m (column m p k) (add (u p) (v p)))
  syndrome-change u v p h same k l b b' =
      syndrome-columns u k l b
      ∙ sum-change F (places m) (λ i. product m (column m i k) (u i)) (λ i. product m (column m i k) (v i)) p h
      (λ i j d. ap (product m _) (same i j d))
      ∙ ap₂ add (sym (syndrome-columns v k l b')) (sym (F.product-add _ _ _))

  -- where the symbols outside the erasures are below q, so are those of the word with 0 at the erasures
  pub masked_small : (ls : List ℕ) (w : ℕ → ℕ) (p : ℕ) → (member p ls ≡ false → w p < order m) → masked ls w p < order m
  masked_small ls w p b = go (member p ls) b
    where
      go : (t : Bool) → (t ≡ false → w p < order m) → cond t 0 (w p) < order m
      go true b = omega (arith, F.one-lt)
      go false b = b refl

  -- the syndromes with one more erasure l
  pub masked-more : (ls : List ℕ) (l : ℕ) → l < places m → member l ls ≡ false → (w : ℕ → ℕ) (k : ℕ) → k < checks → masked ls w k < order m
      → syndrome m (masked (l ∷ ls) w) k ≡ add (syndrome m (masked ls w) k) (product m (column m l k) (w l))
  masked-more ls l h o w k i b =
      syndrome-change (masked (l ∷ ls) w) (masked ls w) l h (λ j n d. ap (λ (t : Bool). cond (t || member j ls) 0 (w j)) (ne_eqb j l d)) k i
      (go (eqb k l) (member k ls) b) b
      ∙ ap (λ (x : ℕ). add (syndrome m (masked ls w) k) (product m (column m l k) x))
      (ap₂ add (ap (λ (t : Bool). cond (t || member l ls) 0 (w l)) (eq-eqb l l refl)) (ap (λ (t : Bool). cond t 0 (w l)) o) ∙ F.zero-add (w l))
    where
      go : (s t : Bool) → cond t 0 (w k) < order m → cond (s || t) 0 (w k) < order m
      go true t b = omega arith
      go false t b = b

  -- a word's syndromes: those of the places outside the erasures, and the combination of the erased columns by its symbols there
  pub syndrome-masked : (ls : List ℕ) → distinct ls ≡ true → all_below (places m) ls ≡ true → (w : ℕ → ℕ) → ((p : ℕ) → p < places m → w p < order m)
      → (k : ℕ) → k < checks → syndrome m w k ≡ add (syndrome m (masked ls w) k) (combine m ls (map w ls) k)
  unfolding combine
  syndrome-masked [] ds bs w b k h = sym (F.add-zero _)
  syndrome-masked (l ∷ ls) ds bs w b k h =
      syndrome-masked ls (distinct_tail l ls ds) (below-tail l ls (places m) bs) w b k h
      ∙ sym (ap (λ (n : ℕ). add n (add x rest)) more ∙ F.add_assoc (syndrome m (masked ls w) k) x (add x rest)
      ∙ ap (add (syndrome m (masked ls w) k)) (add-cancel F x rest))
    where
      x : ℕ
      x = product m (column m l k) (w l)

      rest : ℕ
      rest = combine m ls (map w ls) k

      more : syndrome m (masked (l ∷ ls) w) k ≡ add (syndrome m (masked ls w) k) x
      more =
          masked-more ls l (below-head l ls (places m) bs) (distinct_head l ls ds) w k h (masked_small ls w k (λ o. b k (omega arith)))
