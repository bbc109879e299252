-- Linear systems over the field as matrices of symbols, the steps of elimination, and what the solver's answers mean. m is the width.
-- Assumes nothing.
use Rattle.std.specs.Prelude.{◌≡◌, ◌≢◌, Bool, true, false, List, [], ◌∷◌, map, ℕ, ◌≤◌, ◌<◌, length, get_or, take, drop, set}
use Rattle.field.specs.Polynomial.{add}
use Rattle.field.specs.Field.{order, product, inverse}
use Rattle.field.specs.inner.Operand.{Operand}
use Rattle.code.specs.declared.solver.Solutions.{Solutions}
use Rattle.code.specs.declared.solver.Solutions.TheVariants.{None, One, Several}

-- a system has five equations, one in each row of its matrix
abbrev pub rows : ℕ
rows = 5

-- and at most five unknowns
abbrev pub unknowns : ℕ
unknowns = 5

-- column 0 is the right-hand side, and column 1 + j has the coefficients of unknown j; two columns more make a row eight symbols long
abbrev pub columns : ℕ
columns = 8

-- the symbol in row i and column j
abbrev pub entry : List (List ℕ) → ℕ → ℕ → ℕ
entry a i j = get_or (get_or a i []) j 0

-- a is a matrix of symbols
pub record Matrix (m : ℕ) (a : List (List ℕ)) : Type 0 where
  pub tall : length a ≡ rows
  pub wide : (i : ℕ) → i < rows → length (get_or a i []) ≡ columns
  pub symbols : (i j : ℕ) → i < rows → j < columns → entry a i j < order m

-- ---- what the steps of elimination make

-- each entry of the row is a symbol, at a width of the field
abbrev pub Operands : ℕ → List ℕ → Type 0
Operands m ys = (j : ℕ) → j < columns → Operand m (get_or ys j 0)

-- the row xs with k times the row ys added
abbrev pub row_add : ℕ → List ℕ → ℕ → List ℕ → List ℕ
row_add m [] k ys = []
row_add m (x ∷ xs) k [] = x ∷ xs
row_add m (x ∷ xs) k (y ∷ ys) = add x (product m k y) ∷ row_add m xs k ys

-- k times the row
abbrev pub scale : ℕ → ℕ → List ℕ → List ℕ
scale m k ys = map (product m k) ys

-- row p, divided by its symbol in column c
abbrev pub unit_row : ℕ → List (List ℕ) → ℕ → ℕ → List ℕ
unit_row m a c p = scale m (inverse m (entry a p c)) (get_or a p [])

-- b is the matrix a with column c cleared by row p: that row is divided by its symbol there, and from every other row the multiple of it
-- that makes its symbol there 0 is taken away
pub record Cleared (m : ℕ) (a : List (List ℕ)) (c p : ℕ) (b : List (List ℕ)) : Type 0 where
  pub tall : length b ≡ rows
  pub pivot : get_or b p [] ≡ unit_row m a c p
  pub others : (i : ℕ) → i < rows → i ≢ p → get_or b i [] ≡ row_add m (get_or a i []) (entry a i c) (unit_row m a c p)

-- the matrix with rows i and p exchanged
abbrev pub swapped : List (List ℕ) → ℕ → ℕ → List (List ℕ)
swapped a i p = set (set a i (get_or a p [])) p (get_or a i [])

-- p is the first row, from row r on, whose symbol in column c is not 0; if there is none, p is the number of rows
pub record Pivot (a : List (List ℕ)) (c r p : ℕ) : Type 0 where
  pub from : r ≤ p
  pub upto : p ≤ rows
  pub before : (i : ℕ) → r ≤ i → i < p → entry a i c ≡ 0
  pub nonzero : p < rows → entry a p c ≢ 0

-- column j
abbrev pub column_of : List (List ℕ) → ℕ → List ℕ
column_of a j = map (λ (row : List ℕ). get_or row j 0) a

-- ---- the system, and the answers

-- the coefficients of row i
abbrev pub coefficients : List (List ℕ) → ℕ → List ℕ
coefficients a i = drop 1 (get_or a i [])

-- the right-hand side of row i
abbrev pub right_side : List (List ℕ) → ℕ → ℕ
right_side a i = entry a i 0

-- the field sum of coefficient times value, as far as the shorter list goes
abbrev pub dot : ℕ → List ℕ → List ℕ → ℕ
dot m [] zs = 0
dot m (x ∷ xs) [] = 0
dot m (x ∷ xs) (z ∷ zs) = add (product m x z) (dot m xs zs)

-- a symbol for each of s unknowns
pub record Values (m s : ℕ) (zs : List ℕ) : Type 0 where
  pub size : length zs ≡ s
  pub symbols : (j : ℕ) → j < s → get_or zs j 0 < order m

-- the values solve the system: each row gives its right-hand side
abbrev pub Solves : ℕ → List (List ℕ) → List ℕ → Type 0
Solves m a zs = (i : ℕ) → i < rows → dot m (coefficients a i) zs ≡ right_side a i

-- zs solves the system in the first s unknowns, and nothing else does
pub record OnlySolution (m : ℕ) (a : List (List ℕ)) (s : ℕ) (zs : List ℕ) : Type 0 where
  pub values : Values m s zs
  pub solves : Solves m a zs
  pub only : (ys : List ℕ) → Values m s ys → Solves m a ys → ys ≡ zs

-- two different lists of values solve the system in the first s unknowns
pub record TwoSolutions (m : ℕ) (a : List (List ℕ)) (s : ℕ) : Type 0 where
  pub first : List ℕ
  pub second : List ℕ
  pub first-values : Values m s first
  pub second-values : Values m s second
  pub first-solves : Solves m a first
  pub second-solves : Solves m a second
  pub different : first ≢ second

-- what the answer says of the system a in its first s unknowns. None: nothing solves it. One: the first s of the values do, and nothing
-- else does. Several: there are two different solutions or more
abbrev pub Means : ℕ → Solutions (List ℕ) → List (List ℕ) → ℕ → Type 0
Means m None a s = (ys : List ℕ) → Values m s ys → Solves m a ys → ⊥
Means m (One zs) a s = OnlySolution m a s (take s zs)
Means m Several a s = TwoSolutions m a s

-- the answer is that there are solutions, one or several
abbrev pub is_solved : {A : Type 0} → Solutions A → Bool
is_solved None = false
is_solved (One x) = true
is_solved Several = true

-- y is x, or Next holds of it where x is none
abbrev pub OrElse : {A : Type 0} → Solutions A → (Solutions A → Type 0) → Solutions A → Type 0
OrElse None Next y = Next y
OrElse (One x) Next y = y ≡ One x
OrElse Several Next y = y ≡ Several
