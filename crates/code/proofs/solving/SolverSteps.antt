-- The loops of the solver: what holds before each turn, and a law for each way on and out. Assumes nothing.
use Rattle.field.proofs.Base.{◌≡◌, ◌∙◌, ap, subst, true, false, List, [], ℕ, ◌+◌, ◌≤◌, ◌<◌, arith, get_or, set, take, length-set, get_or-set_same}
use Rattle.field.proofs.Base.{get_or-set_other}
use Rattle.std.proofs.Common.{Option, Some, None, is_some, MatchOption}
use Rattle.field.specs.Field.{inverse}
use Rattle.field.specs.Question.{is_width}
use Rattle.field.specs.inner.Operand.{Operand}
use Rattle.field.specs.inner.Bytes.{inverted}
use Rattle.field.proofs.Widths.{field_of}
use Rattle.field.proofs.Bytes.{inverted-inverse}
use Rattle.code.specs.declared.solver.Solutions.TheVariants.{None as NoSolution, One, Several}
use Rattle.code.specs.inner.Matrix.{rows, unknowns, columns, entry, Matrix, Operands, row_add, scale}
use Rattle.code.specs.inner.Matrix.{unit_row, Cleared, swapped, Pivot, column_of, Means}
use Rattle.code.proofs.Loops.{Filled, filled_on, Sought}
use Rattle.code.proofs.solving.RowLaws.{get_d-scale}
use Rattle.code.proofs.solving.Elimination.{Reduced, Swaps, swaps, reduced-missing, reduced-step, means-none, means-one}
use Rattle.code.proofs.solving.Elimination.{means-several}

-- the search for a pivot: column c is 0 in rows r to i-1
pub record Seeking (a : List (List ℕ)) (c r i : ℕ) : Type 0 where
  pub from : r ≤ i
  pub upto : i ≤ rows
  pub before : Sought (λ k. entry a k c ≡ 0) r i

-- the row that the search finds, if there is one
abbrev pub Found : List (List ℕ) → ℕ → ℕ → Option ℕ → Type 0
Found a c r o = MatchOption o (Pivot a c r rows) (λ p. (p < rows) × Pivot a c r p)

module _ {a : List (List ℕ)} {c r : ℕ} where
  found-row : (o : Option ℕ) → Found a c r o → is_some o ≡ true → (p : ℕ) × (p < rows) × Pivot a c r p
  found-row None f e = absurd (cc)
  found-row (Some p) f e = (p, f.0, f.1)

  found-none : (o : Option ℕ) → Found a c r o → is_some o ≡ false → Pivot a c r rows
  found-none None f e = f
  found-none (Some p) f e = absurd (cc)

-- the clearing of column c by row p: so far, each row has been cleared
abbrev pub Clearing : ℕ → List (List ℕ) → ℕ → ℕ → List (List ℕ) → ℕ → Type 0
Clearing m a c p =
    Filled (List ℕ) [] rows ((is_width m ≡ true) × Matrix m a) (λ i. row_add m (get_or a i []) (entry a i c) (unit_row m a c p))

-- k is the inverse of the pivot, and unit is k times its row
module _ (m : ℕ) (a : List (List ℕ)) (c p : ℕ) (hc : c < columns) (hp : p < rows) (k : ℕ) (unit : List ℕ)
    (ek : k ≡ inverted m (entry a p c)) (eu : Operand m k → Operands m (get_or a p []) → unit ≡ scale m k (get_or a p [])) where
  module _ (w : is_width m ≡ true) (M : Matrix m a) where
    operand : (i j : ℕ) → i < rows → j < columns → Operand m (entry a i j)
    operand i j h l = record { width = w; symbol = M.symbols i j h l }

    k-is : k ≡ inverse m (entry a p c)
    k-is = ek ∙ inverted-inverse (operand p c hp hc)

    unit-is : unit ≡ unit_row m a c p
    unit-is =
        eu (record { width = w; symbol = rw k-is ((field_of m w).inverse-lt _) }) (λ j l. operand p j hp l)
        ∙ ap (λ (n : ℕ). scale m n (get_or a p [])) k-is

    unit-operands : Operands m unit
    unit-operands j l =
        record {
          width = w;
          symbol = rw (unit-is, get_d-scale m (inverse m (entry a p c)) (get_or a p []) j (omega (arith, M.wide p hp))) ((field_of m w).product_lt _ _);
        }

  module _ (out : List (List ℕ)) (i : ℕ) (g : Clearing m a c p out i) where
    pub clearing-on : i < rows → (row : List ℕ) → (Operand m (entry a i c) → Operands m unit → row ≡ row_add m (get_or a i []) (entry a i c) unit)
        → Clearing m a c p (set out i row) (i + 1)
    clearing-on l row e =
        filled_on g l
        (λ h. e (operand h.0 h.1 i c l hc) (unit-operands h.0 h.1) ∙ ap (row_add m (get_or a i []) (entry a i c)) (unit-is h.0 h.1))

    pub clearing-end : rows ≤ i → is_width m ≡ true → Matrix m a → Cleared m a c p (set out p unit)
    clearing-end l w M =
        record {
          tall = length-set out p unit ∙ g.long;
          pivot = get_or-set_same out p unit [] (omega (arith, g.long)) ∙ unit-is w M;
          others = λ k h n. get_or-set_other out p k unit [] n ∙ g.same (w, M) k (omega arith);
        }

-- the elimination, column by column: r of the first c have had a pivot
pub record Solving (m : ℕ) (a₀ a : List (List ℕ)) (s r c : ℕ) : Type 0 where
  pub below : c ≤ s
  pub few : r ≤ c
  pub state : is_width m ≡ true → Matrix m a₀ → Reduced m a₀ a c r

module _ (m : ℕ) (a₀ a : List (List ℕ)) (s r c : ℕ) (S : Solving m a₀ a s r c) (hs : s ≤ unknowns) where
  module _ (h : c < s) (p : ℕ) (P : Pivot a (c + 1) r p) where
    pub solving-on : p < rows → (u b : List (List ℕ)) → u ≡ swapped a r p
        → (is_width m ≡ true → Matrix m u → Cleared m u (c + 1) r b) → Solving m a₀ b s (r + 1) (c + 1)
    solving-on l u b e C =
        record {
          below = omega arith;
          few = omega (arith, S.few);
          state = λ w M. (let R = S.state w M in
              let hr : r < rows = omega (arith, P.from) in
              let E : Swaps a r p u = rw e (swaps a R.matrix.tall r p hr l) in
              reduced-step m (field_of m w) a₀ a c r p R (omega arith) hr l P u E b (C w));
        }

  pub solving-past : c < s → Pivot a (c + 1) r rows → Solving m a₀ a s r (c + 1)
  solving-past h P = record {
    below = omega arith;
    few = omega (arith, S.few);
    state = λ w M. reduced-missing m a₀ a c r (S.state w M) P;
  }

  module _ (h : s ≤ c) (o : Option ℕ) (f : Found a 0 r o) where
    at-end : is_width m ≡ true → Matrix m a₀ → Reduced m a₀ a s r
    at-end w M = subst (λ (n : ℕ). Reduced m a₀ a n r) (omega (arith, S.below)) (S.state w M)

    pub solved-none : is_some o ≡ true → is_width m ≡ true → Matrix m a₀ → Means m NoSolution a₀ s
    solved-none l w M = let p = found-row o f l in means-none m (field_of m w) a₀ a s r (at-end w M) hs M p.0 p.2 p.1

    module _ (l : is_some o ≡ false) where
      pub solved-several : r < s → is_width m ≡ true → Matrix m a₀ → Means m Several a₀ s
      solved-several b w M = means-several m (field_of m w) a₀ a s r (at-end w M) hs M (found-none o f l) b

      pub solved-one : s ≤ r → (zs : List ℕ) → zs ≡ take unknowns (column_of a 0) → is_width m ≡ true → Matrix m a₀ → Means m (One zs) a₀ s
      solved-one b zs ez w M =
          means-one m (field_of m w) a₀ a s r (at-end w M) hs M (found-none o f l) (omega (arith, S.few, S.below)) zs ez
