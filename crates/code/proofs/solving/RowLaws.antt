-- Rows and columns: their entries, and the products of rows with a list of values. Assumes nothing.
use Rattle.field.proofs.Base.{◌≡◌, refl, sym, ◌∙◌, ap, ap₂, subst, ◌≢◌, List, [], ◌∷◌, ℕ, zero, suc, ◌≤◌, ◌<◌, le_of_suc-le-suc, not-suc-le-zero}
use Rattle.field.proofs.Base.{arith, length, get_or, set, take, drop, replicate, length-take-le, get_or-take, get_or-drop, ext_get_or}
use lib.ListN.{length-map, get_or-map, get_or-replicate}
use Rattle.field.specs.Polynomial.{add}
use Rattle.field.specs.Field.{order, product}
use Rattle.field.specs.inner.Operand.{Operand}
use Rattle.field.proofs.Laws.{IsField}
use Rattle.field.specs.inner.Lanes.{eight}
use Rattle.code.specs.Word.{at}
use Rattle.code.specs.inner.Matrix.{rows, columns, entry, column_of, row_add, scale, dot}

pub length-row_add : (m : ℕ) (xs : List ℕ) (k : ℕ) (ys : List ℕ) → length (row_add m xs k ys) ≡ length xs
length-row_add m [] k ys = refl
length-row_add m (x ∷ xs) k [] = refl
length-row_add m (x ∷ xs) k (y ∷ ys) = ap suc (length-row_add m xs k ys)

pub get_d-row_add : (m : ℕ) (xs : List ℕ) (k : ℕ) (ys : List ℕ) (j : ℕ) → length xs ≡ length ys → j < length xs
    → get_or (row_add m xs k ys) j 0 ≡ add (get_or xs j 0) (product m k (get_or ys j 0))
get_d-row_add m [] k ys j e l = absurd (not-suc-le-zero l)
get_d-row_add m (x ∷ xs) k [] j e l = absurd (omega arith)
get_d-row_add m (x ∷ xs) k (y ∷ ys) zero e l = refl
get_d-row_add m (x ∷ xs) k (y ∷ ys) (suc j) e l = get_d-row_add m xs k ys j (omega arith) (le_of_suc-le-suc l)

pub get_d-scale : (m k : ℕ) (ys : List ℕ) (j : ℕ) → j < length ys → get_or (scale m k ys) j 0 ≡ product m k (get_or ys j 0)
get_d-scale m k [] j l = absurd (not-suc-le-zero l)
get_d-scale m k (y ∷ ys) zero l = refl
get_d-scale m k (y ∷ ys) (suc j) l = get_d-scale m k ys j (le_of_suc-le-suc l)

-- a symbol at width 7
pub below-order : {m k : ℕ} → m ≡ 7 → Operand m k → k < 128
below-order {m} {k} e o = subst (λ (n : ℕ). k < order n) e o.symbol

-- rows of eight entries, written out
eight-at : (f : ℕ → ℕ) (j : ℕ) → j < columns → get_or (eight f) j 0 ≡ f j
eight-at f zero h = refl
eight-at f (suc zero) h = refl
eight-at f (suc (suc zero)) h = refl
eight-at f (suc (suc (suc zero))) h = refl
eight-at f (suc (suc (suc (suc zero)))) h = refl
eight-at f (suc (suc (suc (suc (suc zero))))) h = refl
eight-at f (suc (suc (suc (suc (suc (suc zero)))))) h = refl
eight-at f (suc (suc (suc (suc (suc (suc (suc zero))))))) h = refl
eight-at f (suc (suc (suc (suc (suc (suc (suc (suc j)))))))) h = absurd (omega arith)

eight-ext : (f : ℕ → ℕ) (xs : List ℕ) → length xs ≡ columns → ((j : ℕ) → j < columns → get_or xs j 0 ≡ f j) → eight f ≡ xs
eight-ext f xs e s = ext_get_or 0 (eight f) xs (sym e) (λ j h. eight-at f j h ∙ sym (s j h))

pub eight-row_add : (m : ℕ) (xs : List ℕ) (k : ℕ) (ys : List ℕ) → length xs ≡ columns → length ys ≡ columns
    → eight (λ j. add (at xs j) (product m k (at ys j))) ≡ row_add m xs k ys
eight-row_add m xs k ys long wide =
    eight-ext _ (row_add m xs k ys) (length-row_add m xs k ys ∙ long) (λ j h. get_d-row_add m xs k ys j (long ∙ sym wide) (omega arith))

-- added to zeros
pub zero-row_add : {m : ℕ} (F : IsField m) (k : ℕ) (ys : List ℕ) → length ys ≡ columns → row_add m (replicate columns 0) k ys ≡ scale m k ys
zero-row_add {m} F k ys long =
    sym (eight-row_add m (replicate columns 0) k ys refl long)
    ∙ eight-ext _ (scale m k ys) (simp length-map long) (λ j h. get_d-scale m k ys j (omega arith) ∙ zero j h)
  where
    zero : (j : ℕ) → j < columns → product m k (at ys j) ≡ add (at (replicate columns 0) j) (product m k (at ys j))
    zero j h = sym (ap (λ (z : ℕ). add z (product m k (at ys j))) (get_or-replicate {A = ℕ} columns j 0 0 h) ∙ F.zero-add _)

pub get_d_tail : (xs : List ℕ) (j : ℕ) → get_or (drop 1 xs) j 0 ≡ get_or xs (suc j) 0
get_d_tail xs j = get_or-drop 1 xs j 0 ∙ ap (λ (n : ℕ). get_or xs n 0) (omega arith)

-- the first n entries of column j
pub length-column : (a : List (List ℕ)) (j n : ℕ) → length a ≡ rows → n ≤ rows → length (take n (column_of a j)) ≡ n
length-column a j n tall h = length-take-le n (column_of a j) (simp length-map (omega arith))

pub get_d-column : (a : List (List ℕ)) (j n i : ℕ) → i < n → get_or (take n (column_of a j)) i 0 ≡ entry a i j
get_d-column a j n i h = get_or-take n (column_of a j) i 0 h ∙ get_or-map (λ (row : List ℕ). get_or row j 0) a i []

-- the values with v added to the value at place j
abbrev pub raised : List ℕ → ℕ → ℕ → List ℕ
raised zs j v = set zs j (add (get_or zs j 0) v)

module _ (m : ℕ) (F : IsField m) where
  pub dot-lt : (xs zs : List ℕ) → dot m xs zs < order m
  dot-lt [] zs = omega (arith, F.one-lt)
  dot-lt (x ∷ xs) [] = omega (arith, F.one-lt)
  dot-lt (x ∷ xs) (z ∷ zs) = F.add-lt _ _ (F.product_lt x z) (dot-lt xs zs)

  pub dot-scale : (k : ℕ) (xs zs : List ℕ) → dot m (scale m k xs) zs ≡ product m k (dot m xs zs)
  dot-scale k [] zs = sym (F.product-zero k)
  dot-scale k (x ∷ xs) [] = sym (F.product-zero k)
  dot-scale k (x ∷ xs) (z ∷ zs) = ap₂ add (F.product-assoc k x z) (dot-scale k xs zs) ∙ sym (F.product-add k (product m x z) (dot m xs zs))

  -- one more coefficient in a row to which k times another is added
  add-pairs : (k x y z u v : ℕ)
      → add (product m (add x (product m k y)) z) (add u (product m k v)) ≡ add (add (product m x z) u) (product m k (add (product m y z) v))
  add-pairs k x y z u v = simp (F.add-product, F.product-add, F.product-assoc, F.add_assoc, F.add_left_comm)

  pub dot-row_add : (xs : List ℕ) (k : ℕ) (ys zs : List ℕ) → length xs ≡ length ys
      → dot m (row_add m xs k ys) zs ≡ add (dot m xs zs) (product m k (dot m ys zs))
  dot-row_add [] k [] zs e = sym (F.zero-add _ ∙ F.product-zero k)
  dot-row_add [] k (y ∷ ys) zs e = absurd (omega arith)
  dot-row_add (x ∷ xs) k [] zs e = absurd (omega arith)
  dot-row_add (x ∷ xs) k (y ∷ ys) [] e = sym (F.zero-add _ ∙ F.product-zero k)
  dot-row_add (x ∷ xs) k (y ∷ ys) (z ∷ zs) e =
      ap (add (product m (add x (product m k y)) z)) (dot-row_add xs k ys zs (omega arith))
      ∙ add-pairs k x y z (dot m xs zs) (dot m ys zs)

  pub dot-head : (xs : List ℕ) (z : ℕ) (zs : List ℕ) → dot m xs (z ∷ zs) ≡ add (product m (get_or xs 0 0) z) (dot m (drop 1 xs) zs)
  dot-head [] z zs = sym (F.add-zero _ ∙ F.zero-product z)
  dot-head (x ∷ xs) z zs = refl

  -- rows that agree wherever there is a value
  pub dot-same : (xs ys zs : List ℕ) → ((j : ℕ) → j < length zs → get_or xs j 0 ≡ get_or ys j 0) → dot m xs zs ≡ dot m ys zs
  dot-same xs ys [] h = nil xs ∙ sym (nil ys)
    where
      nil : (xs : List ℕ) → dot m xs [] ≡ 0
      nil [] = refl
      nil (x ∷ xs) = refl
  dot-same xs ys (z ∷ zs) h =
      dot-head xs z zs
      ∙ ap₂ add (ap (λ (n : ℕ). product m n z) (h zero (omega arith)))
      (dot-same (drop 1 xs) (drop 1 ys) zs (λ j l. get_d_tail xs j ∙ h (suc j) (omega arith) ∙ sym (get_d_tail ys j)))
      ∙ sym (dot-head ys z zs)

  -- a row that is 0 wherever there is a value
  pub dot-none : (xs zs : List ℕ) → ((j : ℕ) → j < length zs → get_or xs j 0 ≡ 0) → dot m xs zs ≡ 0
  dot-none xs zs h = dot-same xs [] zs h

  -- a row with a single 1
  pub dot-unit : (xs zs : List ℕ) (i : ℕ) → i < length zs → get_or zs i 0 < order m → get_or xs i 0 ≡ 1
      → ((j : ℕ) → j < length zs → j ≢ i → get_or xs j 0 ≡ 0) → dot m xs zs ≡ get_or zs i 0
  dot-unit [] zs i l s e h = absurd (omega arith)
  dot-unit (x ∷ xs) [] i l s e h = absurd (omega arith)
  dot-unit (x ∷ xs) (z ∷ zs) zero l s e h =
      ap₂ add (ap (λ (n : ℕ). product m n z) e ∙ F.one_product z s) (dot-none xs zs (λ j k. h (suc j) (omega arith) (omega arith)))
      ∙ F.add-zero z
  dot-unit (x ∷ xs) (z ∷ zs) (suc i) l s e h =
      ap₂ add (ap (λ (n : ℕ). product m n z) (h zero (omega arith) (omega arith)) ∙ F.zero-product z)
      (dot-unit xs zs i (omega arith) s e (λ j k n. h (suc j) (omega arith) (omega arith)))
      ∙ F.zero-add _

  -- values that are all 0
  pub dot-zeros : (xs : List ℕ) (n : ℕ) → dot m xs (replicate n 0) ≡ 0
  dot-zeros [] n = refl
  dot-zeros (x ∷ xs) zero = refl
  dot-zeros (x ∷ xs) (suc n) = ap₂ add (F.product-zero x) (dot-zeros xs n) ∙ F.add-zero 0

  -- one value raised by v
  pub dot-raised : (xs zs : List ℕ) (j v : ℕ) → j < length zs → dot m xs (raised zs j v) ≡ add (dot m xs zs) (product m (get_or xs j 0) v)
  dot-raised xs [] j v l = absurd (not-suc-le-zero l)
  dot-raised [] (z ∷ zs) zero v l = sym (F.zero-add _ ∙ F.zero-product v)
  dot-raised [] (z ∷ zs) (suc j) v l = sym (F.zero-add _ ∙ F.zero-product v)
  dot-raised (x ∷ xs) (z ∷ zs) zero v l = simp (F.product-add, F.add_assoc) (ap (add (product m x z)) (F.add_comm _ _))
  dot-raised (x ∷ xs) (z ∷ zs) (suc j) v l =
      ap (add (product m x z)) (dot-raised xs zs j v (le_of_suc-le-suc l)) ∙ sym (F.add_assoc _ _ _)
