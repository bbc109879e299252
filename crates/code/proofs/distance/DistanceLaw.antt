-- The distance of the code: 5 where cubing is one to one, 4 in any case; so it goes by the width's parity. Assumes nothing.
use Rattle.field.proofs.Base.{◌≡◌, refl, sym, ap, ap₂, ◌∙◌, subst, ◌≢◌, true, ℕ, zero, suc, ◌+◌, ◌-◌, ◌*◌, ◌%◌, ◌≤◌, ◌<◌, zero-le, add-zero}
use Rattle.field.proofs.Base.{not-suc-le-zero, le_refl, add-one, ℕ_discrete, dec_lt, arith, T, ltb}
use native.Mathlib.Nat.{suc-ne-zero}
use lib.Dec.{ltb→lt}
use Rattle.field.specs.Polynomial.{add}
use Rattle.field.specs.Field.{order, product, power, α}
use Rattle.field.specs.Question.{is_width}
use Rattle.field.proofs.Laws.{IsField, CubeInjective}
use Rattle.field.proofs.Widths.{field_of, cubes-of}
use Rattle.field.proofs.Sums.{sum-none, sum-suc}
use Rattle.code.specs.Word.{checks, places, items, sum, syndrome}
use Rattle.code.specs.Erasure.{total}
use Rattle.code.specs.Near.{distance}
pub use Rattle.code.specs.Near.{nonzero, Distance}
use Rattle.code.proofs.Algebra.{power-times}
use Rattle.code.proofs.Sums.{total-split, part-le}
use Rattle.code.proofs.distance.Points.{Points, none, term, size, row, Apart, Proper, two, two-injective, three, run}

zero-of-nonzero : (x : ℕ) → nonzero x ≤ 0 → x ≡ 0
zero-of-nonzero zero h = refl
zero-of-nonzero (suc x) h = absurd (not-suc-le-zero h)

-- ---- the data symbols that are not 0, with their points

abbrev keep : ℕ → ℕ → Points → Points
keep x zero P = P
keep x (suc v) P = term x (suc v) P

support : ℕ → ℕ → (ℕ → ℕ) → Points
support m zero f = none
support m (suc n) f = keep (power m α n) (f n) (support m n f)

size-keep : (x v : ℕ) (P : Points) → size (keep x v P) ≡ size P + nonzero v
size-keep x zero P = sym (add-zero (size P))
size-keep x (suc v) P = sym (add-one (size P))

size-support : (m n : ℕ) (f : ℕ → ℕ) → size (support m n f) ≡ total n (λ i. nonzero (f i))
unfolding support total
size-support m zero f = refl
size-support m (suc n) f = size-keep (power m α n) (f n) (support m n f) ∙ ap (λ (s : ℕ). s + nonzero (f n)) (size-support m n f)

module _ {m : ℕ} (F : IsField m) where
  row_keep : (x v : ℕ) (P : Points) (k : ℕ) → row m (keep x v P) k ≡ add (row m P k) (product m (power m x k) v)
  unfolding row
  row_keep x zero P k = sym (ap (add (row m P k)) (F.product-zero (power m x k)) ∙ F.add-zero (row m P k))
  row_keep x (suc v) P k = F.add_comm _ _

  row-support : (n : ℕ) (f : ℕ → ℕ) (k : ℕ) → row m (support m n f) k ≡ sum n (λ i. product m (power m α (k * i)) (f i))
  unfolding support row
  row-support zero f k = sym (sum-none _)
  row-support (suc n) f k =
      row_keep (power m α n) (f n) (support m n f) k
      ∙ ap₂ (λ (a b : ℕ). add a (product m b (f n))) (row-support n f k) (sym (power-times F α n k))
      ∙ sym (sum-suc n _)

  apart-keep : (y x v : ℕ) (P : Points) → y ≢ x → Apart y P → Apart y (keep x v P)
  apart-keep y x zero P d a = a
  apart-keep y x (suc v) P d a = (d, a)

  apart-support : (n l : ℕ) (f : ℕ → ℕ) → l ≤ n → n < order m - 1 → Apart (power m α n) (support m l f)
  unfolding support
  apart-support n zero f h b = tt
  apart-support n (suc l) f h b = apart-keep _ _ (f l) (support m l f)
      (λ e. let same : n ≡ l = F.α-distinct n l b (omega arith) e in omega arith) (apart-support n l f (omega arith) b)

  proper-keep : (x v : ℕ) (P : Points) → x < order m → x ≢ 0 → v < order m → Apart x P → Proper m P → Proper m (keep x v P)
  proper-keep x zero P hx nx hv a p = p
  proper-keep x (suc v) P hx nx hv a p =
      record { point-lt = hx; point-ne = nx; value-lt = hv; value-ne = suc-ne-zero v; apart = a; rest = p }

  proper-support : (n : ℕ) (f : ℕ → ℕ) → n ≤ order m - 1 → ((i : ℕ) → i < n → f i < order m) → Proper m (support m n f)
  unfolding support
  proper-support zero f h b = tt
  proper-support (suc n) f h b =
      proper-keep _ (f n) (support m n f) (F.power-lt α n) (F.α-nonzero n) (b n (le_refl (suc n))) (apart-support n n f (le_refl n) h)
      (proper-support n f (omega arith) (λ i l. b i (omega arith)))

-- ---- which check symbols are 0, and which rows then show that there are no points

-- 1 where the number is not 0, by a decision
abbrev count : {x : ℕ} → Dec (x ≡ 0) → ℕ
count (yes e) = 0
count (no n) = 1

count-le : (x : ℕ) (d : Dec (x ≡ 0)) → count d ≤ nonzero x
count-le x (yes e) = zero-le
count-le zero (no n) = absurd (n refl)
count-le (suc x) (no n) = le_refl 1

-- x: the check symbols; b: the number of columns that are to be independent; cubes: what to do where only row 2 is missing
module _ {m : ℕ} (F : IsField m) (P : Points) (p : Proper m P) (x : ℕ → ℕ) (r : (k : ℕ) → T (ltb k checks) → x k ≡ 0 → row m P k ≡ 0)
    (b : ℕ) (b4 : b ≤ 4) (cubes : suc (size P) ≤ b → row m P 0 ≡ 0 → row m P 1 ≡ 0 → row m P 3 ≡ 0 → row m P 4 ≡ 0 → P ≡ none) where
  by_rows : (d0 : Dec (x 0 ≡ 0)) (d1 : Dec (x 1 ≡ 0)) (d2 : Dec (x 2 ≡ 0)) (d3 : Dec (x 3 ≡ 0)) (d4 : Dec (x 4 ≡ 0))
      → count d0 + count d1 + count d2 + count d3 + count d4 + size P ≤ b → P ≡ none
  by_rows (yes e0) (yes e1) (yes e2) (yes e3) d4 h = run F 4 P 0 (omega arith) p (r 0 tt e0, (r 1 tt e1, (r 2 tt e2, (r 3 tt e3, tt))))
  by_rows (no n0) (yes e1) (yes e2) (yes e3) d4 h = run F 3 P 1 (omega arith) p (r 1 tt e1, (r 2 tt e2, (r 3 tt e3, tt)))
  by_rows (yes e0) (yes e1) (yes e2) (no n3) d4 h = run F 3 P 0 (omega arith) p (r 0 tt e0, (r 1 tt e1, (r 2 tt e2, tt)))
  by_rows (no n0) (yes e1) (yes e2) (no n3) d4 h = run F 2 P 1 (omega arith) p (r 1 tt e1, (r 2 tt e2, tt))
  by_rows d0 (no n1) (yes e2) (yes e3) (yes e4) h = run F 3 P 2 (omega arith) p (r 2 tt e2, (r 3 tt e3, (r 4 tt e4, tt)))
  by_rows d0 (no n1) (yes e2) (yes e3) (no n4) h = run F 2 P 2 (omega arith) p (r 2 tt e2, (r 3 tt e3, tt))
  by_rows (yes e0) (no n1) (yes e2) (no n3) d4 h = two F 2 (two-injective F) P 0 (omega arith) p (r 0 tt e0) (r 2 tt e2)
  by_rows (no n0) (no n1) (yes e2) (no n3) d4 h = run F 1 P 2 (omega arith) p (r 2 tt e2, tt)
  by_rows (yes e0) (yes e1) (no n2) (yes e3) (yes e4) h = cubes (omega arith) (r 0 tt e0) (r 1 tt e1) (r 3 tt e3) (r 4 tt e4)
  by_rows (yes e0) (yes e1) (no n2) (yes e3) (no n4) h = run F 2 P 0 (omega arith) p (r 0 tt e0, (r 1 tt e1, tt))
  by_rows (yes e0) (yes e1) (no n2) (no n3) d4 h = run F 2 P 0 (omega arith) p (r 0 tt e0, (r 1 tt e1, tt))
  by_rows (yes e0) (no n1) (no n2) (yes e3) (yes e4) h = run F 2 P 3 (omega arith) p (r 3 tt e3, (r 4 tt e4, tt))
  by_rows (yes e0) (no n1) (no n2) (yes e3) (no n4) h = run F 1 P 0 (omega arith) p (r 0 tt e0, tt)
  by_rows (yes e0) (no n1) (no n2) (no n3) d4 h = run F 1 P 0 (omega arith) p (r 0 tt e0, tt)
  by_rows (no n0) d1 (no n2) (yes e3) (yes e4) h = run F 2 P 3 (omega arith) p (r 3 tt e3, (r 4 tt e4, tt))
  by_rows (no n0) d1 (no n2) (yes e3) (no n4) h = run F 1 P 3 (omega arith) p (r 3 tt e3, tt)
  by_rows (no n0) d1 (no n2) (no n3) (yes e4) h = run F 1 P 4 (omega arith) p (r 4 tt e4, tt)
  by_rows (no n0) d1 (no n2) (no n3) (no n4) h = run F 0 P 0 (omega arith) p tt

-- ---- the distance

module _ {m : ℕ} (F : IsField m) (b : ℕ) (b4 : b ≤ 4)
    (cubes : (P : Points) → Proper m P → suc (size P) ≤ b → row m P 0 ≡ 0 → row m P 1 ≡ 0 → row m P 3 ≡ 0 → row m P 4 ≡ 0 → P ≡ none)
    (e : ℕ → ℕ) (lt : (p : ℕ) → p < places m → e p < order m) (zs : (k : ℕ) → k < checks → syndrome m e k ≡ 0)
    (few : total (places m) (λ p. nonzero (e p)) < suc b) where
  P : Points
  P = support m (items m) (λ i. e (checks + i))

  proper : Proper m P
  unfolding P
  proper = proper-support F (items m) (λ i. e (checks + i)) (le_refl (items m)) (λ i h. lt (checks + i) (omega arith))

  -- each check symbol is the row of the data
  check : (k : ℕ) → k < checks → e k ≡ row m P k
  unfolding P
  check k h = F.eq-of-add _ _ (zs k h) ∙ sym (row-support F (items m) (λ i. e (checks + i)) k)

  size_few : total checks (λ p. nonzero (e p)) + size P ≤ b
  unfolding P
  size_few =
      let split : places m ≡ checks + items m = omega arith in
      omega (
        arith,
        few,
        size-support m (items m) (λ i. e (checks + i)),
        total-split checks (items m) (λ p. nonzero (e p)),
        ap (λ (n : ℕ). total n (λ p. nonzero (e p))) split,
      )

  no-points : P ≡ none
  unfolding total
  no-points = by_rows F P proper e (λ k t z. sym (check k (ltb→lt k checks t)) ∙ z) b b4 (cubes P proper) (d 0) (d 1) (d 2) (d 3) (d 4)
      (omega (arith, size_few, le 0, le 1, le 2, le 3, le 4))
    where
      d : (k : ℕ) → Dec (e k ≡ 0)
      d k = ℕ_discrete (e k) 0

      le : (k : ℕ) → count (d k) ≤ nonzero (e k)
      le k = count-le (e k) (d k)

  check-zero : (k : ℕ) → k < checks → e k ≡ 0
  unfolding row
  check-zero k h = check k h ∙ ap (λ (Q : Points). row m Q k) no-points

  data-zero : (i : ℕ) → i < items m → e (checks + i) ≡ 0
  unfolding P
  data-zero i h = zero-of-nonzero (e (checks + i)) (omega (
    arith,
    part-le (items m) (λ j. nonzero (e (checks + j))) i h,
    size-support m (items m) (λ j. e (checks + j)),
    ap size no-points,
  ))

  all-zero : (p : ℕ) → p < places m → e p ≡ 0
  all-zero p h = go (dec_lt p checks)
    where
      go : Dec (p < checks) → e p ≡ 0
      go (yes l) = check-zero p l
      go (no n) = subst (λ (j : ℕ). e j ≡ 0) (omega arith) (data-zero (p - checks) (omega arith))

-- any four columns are independent where cubing is one to one
pub distance-five : {m : ℕ} → IsField m → CubeInjective m → Distance m 5
distance-five F cube = all-zero F 4 (le_refl 4) (λ P p s. three F cube P (omega arith) p)

-- any three are in any case
pub distance-four : {m : ℕ} → IsField m → Distance m 4
distance-four F = all-zero F 3 (omega arith) (λ P p s e0 e1 e3 e4. run F 2 P 0 (omega arith) p (e0, (e1, tt)))

-- the distance is as defined
pub distance-of : (m : ℕ) → is_width m ≡ true → Distance m (distance m)
distance-of m h = go (m % 2) refl
  where
    go : (p : ℕ) → m % 2 ≡ p → Distance m (4 + p)
    go zero e = distance-four (field_of m h)
    go (suc zero) e = distance-five (field_of m h) (cubes-of m h e)
    go (suc (suc p)) e = absurd (omega arith)
