-- Elimination keeps the solutions of a system, and at its end they can be read off. Assumes nothing.
use Rattle.field.proofs.Base.{◌≡◌, sym, ◌∙◌, ap, ap₂, subst, ◌≢◌, List, [], ◌∷◌, ℕ, zero, suc, ◌+◌, ◌≤◌, ◌<◌, arith, ℕ_discrete, dec_lt, add-one}
use Rattle.field.proofs.Base.{length, get_or, set, take, replicate, length-set, length-replicate, get_or-set_same, get_or-set_other, get_or-take}
use Rattle.field.proofs.Base.{length-take-le, ext_get_or}
use lib.ListN.{length-map, get_or-replicate}
use borrow.Author.Count.{below_more}
use Rattle.field.specs.Polynomial.{add}
use Rattle.field.specs.Field.{order, product, inverse}
use Rattle.field.proofs.Laws.{IsField}
use Rattle.code.specs.declared.solver.Solutions.TheVariants.{None, One, Several}
use Rattle.code.specs.inner.Matrix.{rows, unknowns, columns, entry, Matrix, unit_row, Cleared, swapped, Pivot, column_of}
use Rattle.code.specs.inner.Matrix.{coefficients, right_side, dot, Values, Solves, Means}
use Rattle.code.proofs.solving.RowLaws.{length-row_add, get_d-row_add, get_d-scale, get_d_tail, length-column, get_d-column}
use Rattle.code.proofs.solving.RowLaws.{raised, dot-lt, dot-scale, dot-row_add, dot-head, dot-none, dot-unit, dot-zeros, dot-raised}

-- the values ws, of the right-hand side and the unknowns, make each row 0. With 1 in front of them, values of the unknowns solve the system
abbrev pub Annuls : ℕ → List (List ℕ) → List ℕ → Type 0
Annuls m a ws = (i : ℕ) → i < rows → dot m (get_or a i []) ws ≡ 0

module _ (m : ℕ) (F : IsField m) (a : List (List ℕ)) (M : Matrix m a) (zs : List ℕ) where
  row-with-one : (i : ℕ) → i < rows → dot m (get_or a i []) (1 ∷ zs) ≡ add (right_side a i) (dot m (coefficients a i) zs)
  row-with-one i h =
      dot-head m F (get_or a i []) 1 zs
      ∙ ap (λ (n : ℕ). add n (dot m (coefficients a i) zs)) (F.product-one _ (M.symbols i 0 h (omega arith)))

  solves-annuls : Solves m a zs → Annuls m a (1 ∷ zs)
  solves-annuls S i h = row-with-one i h ∙ ap (add (right_side a i)) (S i h) ∙ F.add-self _

  annuls-solves : Annuls m a (1 ∷ zs) → Solves m a zs
  annuls-solves S i h = sym (F.eq-of-add _ _ (sym (row-with-one i h) ∙ S i h))

-- what clearing column c by row p makes of the matrix a: a matrix b with the same lists that annul it, with a unit column at c, and with
-- every column as it was that is 0 in row p
record Clears (m : ℕ) (a : List (List ℕ)) (c p : ℕ) (b : List (List ℕ)) : Type 0 where
  matrix : Matrix m b
  there : (ws : List ℕ) → Annuls m a ws → Annuls m b ws
  back : (ws : List ℕ) → Annuls m b ws → Annuls m a ws
  one : entry b p c ≡ 1
  zero : (i : ℕ) → i < rows → i ≢ p → entry b i c ≡ 0
  kept : (j : ℕ) → j < columns → entry a p j ≡ 0 → (i : ℕ) → i < rows → entry b i j ≡ entry a i j

module _ (m : ℕ) (F : IsField m) (a : List (List ℕ)) (M : Matrix m a) (c p : ℕ) (hc : c < columns) (hp : p < rows)
    (b : List (List ℕ)) (C : Cleared m a c p b) where
  unit-wide : length (unit_row m a c p) ≡ columns
  unit-wide = length-map (get_or a p []) (product m (inverse m (entry a p c))) ∙ M.wide p hp

  pivot-at : (j : ℕ) → j < columns → entry b p j ≡ product m (inverse m (entry a p c)) (entry a p j)
  pivot-at j h =
      ap (λ (row : List ℕ). get_or row j 0) C.pivot ∙ get_d-scale m (inverse m (entry a p c)) (get_or a p []) j (omega (arith, M.wide p hp))

  other_at : (i j : ℕ) → i < rows → j < columns → i ≢ p → entry b i j ≡ add (entry a i j) (product m (entry a i c) (entry b p j))
  other_at i j hi hj n =
      ap (λ (row : List ℕ). get_or row j 0) (C.others i hi n)
      ∙ get_d-row_add m (get_or a i []) (entry a i c) (unit_row m a c p) j (M.wide i hi ∙ sym unit-wide) (omega (arith, M.wide i hi))
      ∙ ap (λ (row : List ℕ). add (entry a i j) (product m (entry a i c) (get_or row j 0))) (sym C.pivot)

  cleared-matrix : Matrix m b
  cleared-matrix = record { tall = C.tall; wide = λ i h. wide i h (ℕ_discrete i p); symbols = λ i j h l. symbols i j h l (ℕ_discrete i p) }
    where
      wide : (i : ℕ) → i < rows → Dec (i ≡ p) → length (get_or b i []) ≡ columns
      wide i h (yes e) = ap (λ (k : ℕ). length (get_or b k [])) e ∙ ap length C.pivot ∙ unit-wide
      wide i h (no n) = ap length (C.others i h n) ∙ length-row_add m (get_or a i []) (entry a i c) (unit_row m a c p) ∙ M.wide i h

      symbols : (i j : ℕ) → i < rows → j < columns → Dec (i ≡ p) → entry b i j < order m
      symbols i j h l (yes e) = rw (e, pivot-at j l) (F.product_lt _ _)
      symbols i j h l (no n) = rw (other_at i j h l n) (F.add-lt _ _ (M.symbols i j h l) (F.product_lt _ _))

  dot-pivot : (ws : List ℕ) → dot m (get_or b p []) ws ≡ product m (inverse m (entry a p c)) (dot m (get_or a p []) ws)
  dot-pivot ws = ap (λ (row : List ℕ). dot m row ws) C.pivot ∙ dot-scale m F (inverse m (entry a p c)) (get_or a p []) ws

  -- where the row of the pivot gives 0, every other row gives what it gave
  dot-other : (ws : List ℕ) → dot m (get_or b p []) ws ≡ 0 → (i : ℕ) → i < rows → i ≢ p → dot m (get_or b i []) ws ≡ dot m (get_or a i []) ws
  dot-other ws z i h n =
      ap (λ (row : List ℕ). dot m row ws) (C.others i h n)
      ∙ dot-row_add m F (get_or a i []) (entry a i c) (unit_row m a c p) ws (M.wide i h ∙ sym unit-wide)
      ∙ ap (λ (row : List ℕ). add (dot m (get_or a i []) ws) (product m (entry a i c) (dot m row ws))) (sym C.pivot)
      ∙ ap (λ (k : ℕ). add (dot m (get_or a i []) ws) (product m (entry a i c) k)) z
      ∙ ap (add (dot m (get_or a i []) ws)) (F.product-zero _) ∙ F.add-zero _

  cleared-annuls : (ws : List ℕ) → Annuls m a ws → Annuls m b ws
  cleared-annuls ws S i h = go (ℕ_discrete i p)
    where
      here : dot m (get_or b p []) ws ≡ 0
      here = dot-pivot ws ∙ ap (product m (inverse m (entry a p c))) (S p hp) ∙ F.product-zero _

      go : Dec (i ≡ p) → dot m (get_or b i []) ws ≡ 0
      go (yes e) = rw e here
      go (no n) = dot-other ws here i h n ∙ S i h

  module _ (nz : entry a p c ≢ 0) where
    inverse-here : product m (entry a p c) (inverse m (entry a p c)) ≡ 1
    inverse-here = F.product-inverse (entry a p c) nz (M.symbols p c hp hc)

    inverse-nonzero : inverse m (entry a p c) ≢ 0
    inverse-nonzero e =
        let z : ◌≡◌ {A = ℕ} 1 0 = sym inverse-here ∙ ap (product m (entry a p c)) e ∙ F.product-zero _ in
        omega arith

    annuls-cleared : (ws : List ℕ) → Annuls m b ws → Annuls m a ws
    annuls-cleared ws S i h = go (ℕ_discrete i p)
      where
        here : dot m (get_or a p []) ws ≡ 0
        here = F.no-zero-divisors _ _ inverse-nonzero (F.inverse-lt _) (dot-lt m F (get_or a p []) ws) (sym (dot-pivot ws) ∙ S p hp)

        go : Dec (i ≡ p) → dot m (get_or a i []) ws ≡ 0
        go (yes e) = rw e here
        go (no n) = sym (dot-other ws (S p hp) i h n) ∙ S i h

    one-here : entry b p c ≡ 1
    one-here = pivot-at c hc ∙ F.product-comm _ _ ∙ inverse-here

    zero-here : (i : ℕ) → i < rows → i ≢ p → entry b i c ≡ 0
    zero-here i h n =
        other_at i c h hc n ∙ ap (λ (k : ℕ). add (entry a i c) (product m (entry a i c) k)) one-here
        ∙ ap (add (entry a i c)) (F.product-one _ (M.symbols i c h hc)) ∙ F.add-self _

  -- a column that is 0 in row p stays as it is
  column-kept : (j : ℕ) → j < columns → entry a p j ≡ 0 → (i : ℕ) → i < rows → entry b i j ≡ entry a i j
  column-kept j hj e i hi = go (ℕ_discrete i p)
    where
      here : entry b p j ≡ 0
      here = pivot-at j hj ∙ ap (product m (inverse m (entry a p c))) e ∙ F.product-zero _

      go : Dec (i ≡ p) → entry b i j ≡ entry a i j
      go (yes q) = rw q (here ∙ sym e)
      go (no n) =
          other_at i j hi hj n ∙ ap (λ (k : ℕ). add (entry a i j) (product m (entry a i c) k)) here
          ∙ ap (add (entry a i j)) (F.product-zero _) ∙ F.add-zero _

  clears : entry a p c ≢ 0 → Clears m a c p b
  clears nz =
      record { matrix = cleared-matrix; there = cleared-annuls; back = annuls-cleared nz; one = one-here nz; zero = zero-here nz; kept = column-kept }

-- b is a with rows i and p exchanged
pub record Swaps (a : List (List ℕ)) (i p : ℕ) (b : List (List ℕ)) : Type 0 where
  pub tall : length b ≡ rows
  pub first : get_or b i [] ≡ get_or a p []
  pub last : get_or b p [] ≡ get_or a i []
  pub others : (k : ℕ) → k ≢ i → k ≢ p → get_or b k [] ≡ get_or a k []

pub swaps : (a : List (List ℕ)) → length a ≡ rows → (i p : ℕ) → i < rows → p < rows → Swaps a i p (swapped a i p)
swaps a tall i p hi hp =
    record {
      tall = simp length-set tall;
      first = first (ℕ_discrete i p);
      last = last;
      others = λ k ni np. get_or-set_other (set a i (get_or a p [])) p k (get_or a i []) [] np ∙ get_or-set_other a i k (get_or a p []) [] ni;
    }
  where
    last : get_or (swapped a i p) p [] ≡ get_or a i []
    last = get_or-set_same (set a i (get_or a p [])) p (get_or a i []) [] (simp length-set (omega arith))

    first : Dec (i ≡ p) → get_or (swapped a i p) i [] ≡ get_or a p []
    first (yes e) = ap (λ (k : ℕ). get_or (swapped a i p) k []) e ∙ last ∙ ap (λ (k : ℕ). get_or a k []) e
    first (no n) = get_or-set_other (set a i (get_or a p [])) p i (get_or a i []) [] n ∙ get_or-set_same a i (get_or a p []) [] (omega arith)

module _ (a b : List (List ℕ)) (i p : ℕ) (hi : i < rows) (hp : p < rows) (E : Swaps a i p b) where
  -- what holds of each row holds of each row after the exchange
  swaps-all : (P : List ℕ → Type 0) → ((k : ℕ) → k < rows → P (get_or a k [])) → (k : ℕ) → k < rows → P (get_or b k [])
  swaps-all P h k l = go (ℕ_discrete k i) (ℕ_discrete k p)
    where
      go : Dec (k ≡ i) → Dec (k ≡ p) → P (get_or b k [])
      go (yes e) d = rw (e, E.first) (h p hp)
      go (no n) (yes e) = rw (e, E.last) (h i hi)
      go (no n) (no n') = rw (E.others k n n') (h k l)

  swaps-back : length a ≡ rows → Swaps b i p a
  swaps-back tall = record { tall = tall; first = sym E.last; last = sym E.first; others = λ k ni np. sym (E.others k ni np) }

-- row k has a column of its own among those of the first c unknowns: it is 1 in this row and 0 in every other. If each of the c columns
-- has had a pivot, r = c, it is the column of unknown k; otherwise it is not the column of the free unknown
pub record Owns (a : List (List ℕ)) (c r free k : ℕ) : Type 0 where
  pub column : ℕ
  pub below : column < c
  pub one : entry a k (suc column) ≡ 1
  pub zero : (i : ℕ) → i < rows → i ≢ k → entry a i (suc column) ≡ 0
  pub plain : r ≡ c → column ≡ k
  pub other : r < c → column ≢ free

-- after c steps, of which r found a pivot: the first r rows have columns of their own, the others are 0 in the first c unknowns, and the
-- matrix a has the solutions of the first one, a₀. Where a pivot was missing, free is an unknown whose column no row owns
pub record Reduced (m : ℕ) (a₀ a : List (List ℕ)) (c r : ℕ) : Type 0 where
  pub matrix : Matrix m a
  pub there : (ws : List ℕ) → Annuls m a₀ ws → Annuls m a ws
  pub back : (ws : List ℕ) → Annuls m a ws → Annuls m a₀ ws
  pub few : r ≤ c
  pub free : ℕ
  pub free-below : r < c → free < c
  pub owns : (k : ℕ) → k < r → Owns a c r free k
  pub rest : (i j : ℕ) → r ≤ i → i < rows → j < c → entry a i (suc j) ≡ 0

-- a step with no pivot: the unknown of the column is free
pub reduced-missing : (m : ℕ) (a₀ a : List (List ℕ)) (c r : ℕ) → Reduced m a₀ a c r → Pivot a (c + 1) r rows → Reduced m a₀ a (c + 1) r
reduced-missing m a₀ a c r R P =
    record {
      matrix = R.matrix;
      there = R.there;
      back = R.back;
      few = omega (arith, R.few);
      free = c;
      free-below = λ l. omega arith;
      owns = λ k l. owned (R.owns k l);
      rest = λ i j l h. below_more (λ (j : ℕ). entry a i (suc j) ≡ 0) c (λ j b. R.rest i j l h b) (rw add-one at (P.before i l h)) j;
    }
  where
    owned : {k : ℕ} → Owns a c r R.free k → Owns a (c + 1) r c k
    owned O =
        record {
          column = O.column;
          below = omega (arith, O.below);
          one = O.one;
          zero = O.zero;
          plain = λ e. absurd (omega (arith, R.few));
          other = λ l. omega (arith, O.below);
        }

-- a step with a pivot: its row p changes places with row r, which makes u, and then clears column c + 1, which makes b
module _ (m : ℕ) (F : IsField m) (a₀ a : List (List ℕ)) (c r p : ℕ) (R : Reduced m a₀ a c r) (hc : c < unknowns) (hr : r < rows) (hp : p < rows)
    (P : Pivot a (c + 1) r p) (u : List (List ℕ)) (E : Swaps a r p u) where
  moved : (Q : List ℕ → Type 0) → ((k : ℕ) → k < rows → Q (get_or a k [])) → (k : ℕ) → k < rows → Q (get_or u k [])
  moved = swaps-all a u r p hr hp E

  swapped-matrix : Matrix m u
  swapped-matrix =
      record {
        tall = E.tall;
        wide = moved (λ row. length row ≡ columns) R.matrix.wide;
        symbols = λ i j h l. moved (λ row. get_or row j 0 < order m) (λ k b. R.matrix.symbols k j b l) i h;
      }

  -- the columns before stay: both rows have 0 in them
  swapped_same : (i j : ℕ) → i < rows → j < c → entry u i (suc j) ≡ entry a i (suc j)
  swapped_same i j h l = go (ℕ_discrete i r) (ℕ_discrete i p)
    where
      go : Dec (i ≡ r) → Dec (i ≡ p) → entry u i (suc j) ≡ entry a i (suc j)
      go (yes e) d = rw (e, E.first) (R.rest p j P.from hp l ∙ sym (R.rest r j (omega arith) hr l))
      go (no x) (yes e) = rw (e, E.last) (R.rest r j (omega arith) hr l ∙ sym (R.rest p j P.from hp l))
      go (no x) (no y) = ap (λ (row : List ℕ). get_or row (suc j) 0) (E.others i x y)

  module _ (b : List (List ℕ)) (C : Matrix m u → Cleared m u (c + 1) r b) where
    K : Clears m u (c + 1) r b
    K = clears m F u swapped-matrix (c + 1) r (omega arith) hr b (C swapped-matrix) (λ e. P.nonzero hp (rw E.first at e))

    same : (i j : ℕ) → i < rows → j < c → entry b i (suc j) ≡ entry a i (suc j)
    same i j h l =
        K.kept (suc j) (omega arith) (swapped_same r j hr l ∙ R.rest r j (omega arith) hr l) i h ∙ swapped_same i j h l

    owned : {k : ℕ} → k < r → Owns a c r R.free k → Owns b (c + 1) (r + 1) R.free k
    owned {k} l O =
        record {
          column = O.column;
          below = omega (arith, O.below);
          one = same k O.column (omega arith) O.below ∙ O.one;
          zero = λ i h n. same i O.column h O.below ∙ O.zero i h n;
          plain = λ e. O.plain (omega arith);
          other = λ b. O.other (omega arith);
        }

    own : Owns b (c + 1) (r + 1) R.free r
    own =
        record {
          column = c;
          below = omega arith;
          one = rw add-one at K.one;
          zero = rw add-one at K.zero;
          plain = λ e. omega arith;
          other = λ l. omega (arith, R.free-below (omega arith));
        }

    pub reduced-step : Reduced m a₀ b (c + 1) (r + 1)
    reduced-step =
        record {
          matrix = K.matrix;
          there = λ ws S. K.there ws (moved (λ row. dot m row ws ≡ 0) (R.there ws S));
          back = λ ws S. R.back ws
              (swaps-all u a r p hr hp (swaps-back a u r p hr hp E R.matrix.tall) (λ row. dot m row ws ≡ 0) (K.back ws S));
          few = omega (arith, R.few);
          free = R.free;
          free-below = λ l. omega (arith, R.free-below (omega arith));
          owns = below_more (Owns b (c + 1) (r + 1) R.free) r (λ k l. owned l (R.owns k l)) own;
          rest = λ i j l h. below_more (λ (j : ℕ). entry b i (suc j) ≡ 0) c
              (λ j b. same i j h b ∙ R.rest i j (omega arith) h b)
              (rw add-one at (K.zero i h (omega arith))) j;
        }

-- values that are all 0, and values with v added to one of them
module _ (m : ℕ) (F : IsField m) (s : ℕ) where
  zeros : Values m s (replicate s 0)
  zeros =
      record {
        size = length-replicate s 0;
        symbols = λ j h. rw (get_or-replicate {A = ℕ} s j 0 0 h) (omega (arith, F.one-lt));
      }

  raised-values : (zs : List ℕ) → Values m s zs → (j v : ℕ) → j < s → v < order m → Values m s (raised zs j v)
  raised-values zs D j v h b =
      record { size = length-set zs j _ ∙ D.size; symbols = λ i k. go i k (ℕ_discrete i j) }
    where
      go : (i : ℕ) → i < s → Dec (i ≡ j) → get_or (raised zs j v) i 0 < order m
      go i k (yes e) = rw (e, get_or-set_same zs j (add (get_or zs j 0) v) 0 (omega (arith, D.size))) (F.add-lt _ _ (D.symbols j h) b)
      go i k (no n) = rw (get_or-set_other zs j i (add (get_or zs j 0) v) 0 n) (D.symbols i k)

-- the answers, at the end of the elimination
module _ (m : ℕ) (F : IsField m) (a₀ a : List (List ℕ)) (s r : ℕ) (R : Reduced m a₀ a s r) (hs : s ≤ unknowns) (M₀ : Matrix m a₀) where
  -- a row that owns no column gives 0
  no_value : (zs : List ℕ) → Values m s zs → (i : ℕ) → r ≤ i → i < rows → dot m (coefficients a i) zs ≡ 0
  no_value zs D i l h =
      dot-none m F (coefficients a i) zs (λ j k. get_d_tail (get_or a i []) j ∙ R.rest i j l h (omega (arith, D.size)))

  solves-there : (ys : List ℕ) → Solves m a₀ ys → Solves m a ys
  solves-there ys S = annuls-solves m F a R.matrix ys (R.there (1 ∷ ys) (solves-annuls m F a₀ M₀ ys S))

  solves-back : (ys : List ℕ) → Solves m a ys → Solves m a₀ ys
  solves-back ys S = annuls-solves m F a₀ M₀ ys (R.back (1 ∷ ys) (solves-annuls m F a R.matrix ys S))

  pub means-none : (p : ℕ) → Pivot a 0 r p → p < rows → Means m None a₀ s
  means-none p P l ys D S = P.nonzero l (sym (solves-there ys S p l) ∙ no_value ys D p P.from l)

  -- no pivot was missing: row k has the value of unknown k
  module _ (P : Pivot a 0 r rows) (full : r ≡ s) (zs : List ℕ) (e : zs ≡ take unknowns (column_of a 0)) where
    own_value : (ys : List ℕ) → Values m s ys → (i : ℕ) → i < s → dot m (coefficients a i) ys ≡ get_or ys i 0
    own_value ys D i h =
        dot-unit m F (coefficients a i) ys i (omega (arith, D.size)) (D.symbols i h) (get_d_tail (get_or a i []) i ∙ one i h)
        (λ j l n. get_d_tail (get_or a i []) j ∙ zero i j (omega arith) (omega (arith, D.size)) (omega arith))
      where
        one : (i : ℕ) → i < s → entry a i (suc i) ≡ 1
        one i h = let O = R.owns i (omega arith) in subst (λ (j : ℕ). entry a i (suc j) ≡ 1) (O.plain full) O.one

        zero : (i j : ℕ) → i < rows → j < s → i ≢ j → entry a i (suc j) ≡ 0
        zero i j h l n = let O = R.owns j (omega arith) in subst (λ (k : ℕ). entry a i (suc k) ≡ 0) (O.plain full) (O.zero i h n)

    value-at : (i : ℕ) → i < s → get_or (take s zs) i 0 ≡ right_side a i
    value-at i h = get_or-take s zs i 0 h ∙ ap (λ (l : List ℕ). get_or l i 0) e ∙ get_d-column a 0 unknowns i (omega arith)

    long : length zs ≡ unknowns
    long = ap length e ∙ length-column a 0 unknowns R.matrix.tall (omega arith)

    values : Values m s (take s zs)
    values =
        record {
          size = length-take-le s zs (omega (arith, long));
          symbols = λ i h. rw (value-at i h) (R.matrix.symbols i 0 (omega arith) (omega arith));
        }

    solution : Solves m a (take s zs)
    solution i h = go (dec_lt i s)
      where
        go : Dec (i < s) → dot m (coefficients a i) (take s zs) ≡ right_side a i
        go (yes l) = own_value (take s zs) values i l ∙ value-at i l
        go (no n) = no_value (take s zs) values i (omega arith) h ∙ sym (P.before i (omega arith) h)

    pub means-one : Means m (One zs) a₀ s
    means-one =
        record {
          values = values;
          solves = solves-back (take s zs) solution;
          only = λ ys D S. ext_get_or 0 ys (take s zs) (D.size ∙ sym values.size)
              (λ i h. sym (own_value ys D i (omega (arith, D.size)))
              ∙ solves-there ys S i (omega (arith, D.size))
              ∙ sym (value-at i (omega (arith, D.size))));
        }

  -- a pivot was missing: the free unknown can have any value x
  module _ (P : Pivot a 0 r rows) (l : r < s) where
    -- row i for values with v added to one of them
    dot-with : (zs : List ℕ) → Values m s zs → (j v : ℕ) → j < s → (i : ℕ)
        → dot m (coefficients a i) (raised zs j v) ≡ add (dot m (coefficients a i) zs) (product m (entry a i (suc j)) v)
    dot-with zs D j v h i =
        dot-raised m F (coefficients a i) zs j v (omega (arith, D.size))
        ∙ ap (λ (k : ℕ). add (dot m (coefficients a i) zs) (product m k v)) (get_d_tail (get_or a i []) j)

    -- values that solve the first n rows, where the free unknown is x; each other row gives what x adds to it
    record Upto (x n : ℕ) : Type 0 where
      list : List ℕ
      values : Values m s list
      here : get_or list R.free 0 ≡ x
      done : (i : ℕ) → i < n → dot m (coefficients a i) list ≡ right_side a i
      todo : (i : ℕ) → n ≤ i → i < rows → dot m (coefficients a i) list ≡ product m (entry a i (suc R.free)) x

    module _ (x : ℕ) (hx : x < order m) where
      upto-start : Upto x 0
      upto-start =
          record {
            list = raised (replicate s 0) R.free x;
            values = raised-values m F s (replicate s 0) (zeros m F s) R.free x (R.free-below l) hx;
            here = get_or-set_same (replicate s 0) R.free _ 0 (omega (arith, R.free-below l, (zeros m F s).size))
                ∙ ap (λ (k : ℕ). add k x) (get_or-replicate {A = ℕ} s R.free 0 0 (R.free-below l)) ∙ F.zero-add x;
            done = λ i h. absurd (omega arith);
            todo = λ i b h. dot-with (replicate s 0) (zeros m F s) R.free x (R.free-below l) i
                ∙ ap (λ (k : ℕ). add k (product m (entry a i (suc R.free)) x)) (dot-zeros m F (coefficients a i) s) ∙ F.zero-add _;
          }

      upto-more : (n : ℕ) → n < r → Upto x n → Upto x (n + 1)
      upto-more n h U =
          record {
            list = raised U.list j v;
            values = raised-values m F s U.list U.values j v O.below small;
            here = get_or-set_other U.list j R.free (add (get_or U.list j 0) v) 0 (λ e. O.other l (sym e)) ∙ U.here;
            done = below_more (λ (i : ℕ). dot m (coefficients a i) (raised U.list j v) ≡ right_side a i) n
                (λ i b. kept i (omega arith) (omega arith) ∙ U.done i b)
                (dot-with U.list U.values j v O.below n
                ∙ ap₂ add (U.todo n (omega arith) (omega arith)) (ap (λ (k : ℕ). product m k v) O.one ∙ F.one_product v small)
                ∙ both);
            todo = λ i b k. kept i k (omega arith) ∙ U.todo i (omega arith) k;
          }
        where
          O : Owns a s r R.free n
          O = R.owns n h

          j : ℕ
          j = O.column

          d : ℕ
          d = product m (entry a n (suc R.free)) x

          v : ℕ
          v = add (right_side a n) d

          small : v < order m
          small = F.add-lt _ _ (R.matrix.symbols n 0 (omega arith) (omega arith)) (F.product_lt _ _)

          both : add d v ≡ right_side a n
          both = F.add_left_comm _ _ _ ∙ ap (add (right_side a n)) (F.add-self _) ∙ F.add-zero _

          kept : (i : ℕ) → i < rows → i ≢ n → dot m (coefficients a i) (raised U.list j v) ≡ dot m (coefficients a i) U.list
          kept i k ne =
              dot-with U.list U.values j v O.below i
              ∙ ap (λ (z : ℕ). add (dot m (coefficients a i) U.list) (product m z v)) (O.zero i k ne)
              ∙ ap (add (dot m (coefficients a i) U.list)) (F.zero-product v) ∙ F.add-zero _

      upto : (n : ℕ) → n ≤ r → Upto x n
      upto zero h = upto-start
      upto (suc n) h = subst (Upto x) (add-one n) (upto-more n h (upto n (omega arith)))

      solved : Upto x r
      solved = upto r (omega arith)

      solves-with : Solves m a₀ solved.list
      solves-with = solves-back solved.list (λ i h. go i h (dec_lt i r))
        where
          go : (i : ℕ) → i < rows → Dec (i < r) → dot m (coefficients a i) solved.list ≡ right_side a i
          go i h (yes b) = solved.done i b
          go i h (no n) =
              no_value solved.list solved.values i (omega arith) h ∙ sym (P.before i (omega arith) h)

    pub means-several : Means m Several a₀ s
    means-several =
        record {
          first = one.list;
          second = other.list;
          first-values = one.values;
          second-values = other.values;
          first-solves = solves-with 0 (omega (arith, F.one-lt));
          second-solves = solves-with 1 F.one-lt;
          different = λ e. (let z : ◌≡◌ {A = ℕ} 0 1 = sym one.here ∙ ap (λ (l : List ℕ). get_or l R.free 0) e ∙ other.here in omega arith);
        }
      where
        one : Upto 0 r
        one = solved 0 (omega (arith, F.one-lt))

        other : Upto 1 r
        other = solved 1 F.one-lt
