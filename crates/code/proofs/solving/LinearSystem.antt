-- The solver's answers for a system that is given by its right-hand sides and the coefficients of its s unknowns, whatever stands in the
-- columns that are not used. Assumes nothing.
use Rattle.field.proofs.Base.{◌≡◌, sym, ◌∙◌, List, [], ℕ, ◌+◌, ◌<◌, arith, add-one, get_or, take}
use Rattle.field.proofs.Laws.{IsField}
use Rattle.code.specs.declared.solver.Solutions.TheVariants.{None, One, Several}
use Rattle.code.specs.inner.Matrix.{rows, entry, coefficients, right_side, dot, Values, Solves, Means}
use Rattle.code.proofs.solving.RowLaws.{get_d_tail, dot-same}

-- row i of the matrix a has the right-hand side b i and the coefficients cs i
pub record System (a : List (List ℕ)) (s : ℕ) (b : ℕ → ℕ) (cs : ℕ → List ℕ) : Type 0 where
  pub right : (i : ℕ) → i < rows → right_side a i ≡ b i
  pub left : (i j : ℕ) → i < rows → j < s → entry a i (j + 1) ≡ get_or (cs i) j 0

-- the values zs make each row i equal to b i
abbrev pub Meets : ℕ → (ℕ → ℕ) → (ℕ → List ℕ) → List ℕ → Type 0
Meets m b cs zs = (i : ℕ) → i < rows → dot m (cs i) zs ≡ b i

module _ (m : ℕ) (F : IsField m) (a : List (List ℕ)) (s : ℕ) (b : ℕ → ℕ) (cs : ℕ → List ℕ) (Y : System a s b cs) where
  row-dot : (zs : List ℕ) → Values m s zs → (i : ℕ) → i < rows → dot m (coefficients a i) zs ≡ dot m (cs i) zs
  row-dot zs D i h =
      dot-same m F (coefficients a i) (cs i) zs (λ j l. get_d_tail (get_or a i []) j ∙ rw (← add-one) (Y.left i j h (omega (arith, D.size))))

  pub meets-solves : (zs : List ℕ) → Values m s zs → Meets m b cs zs → Solves m a zs
  meets-solves zs D S i h = row-dot zs D i h ∙ S i h ∙ sym (Y.right i h)

  solves-meets : (zs : List ℕ) → Values m s zs → Solves m a zs → Meets m b cs zs
  solves-meets zs D S i h = sym (row-dot zs D i h) ∙ S i h ∙ Y.right i h

  pub system-none : Means m None a s → (ys : List ℕ) → Values m s ys → Meets m b cs ys → ⊥
  system-none N ys D S = N ys D (meets-solves ys D S)

  pub system-solved : (vs : List ℕ) → Means m (One vs) a s → Meets m b cs (take s vs)
  system-solved vs O = solves-meets (take s vs) O.values O.solves

  pub system-several : (T : Means m Several a s) → Meets m b cs T.first × Meets m b cs T.second
  system-several T = (solves-meets T.first T.first-values T.first-solves, solves-meets T.second T.second-values T.second-solves)
