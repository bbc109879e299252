-- What is promised of the field and of the refusal numbers, as statements about the definitions and what the calls answer;
-- proofs/Demands.antt proves each under its name in small letters. Assumes nothing.
use Rattle.std.specs.Prelude.{◌≡◌, ◌↔◌, ◌≢◌, true, [], ◌∷◌, map, ℕ, ◌-◌, ◌*◌, ◌/◌, ◌%◌, ◌≤◌, ◌<◌}
use Rattle.field.specs.Polynomial.{add, carryless}
use Rattle.field.specs.Field.{order, polynomial, power, α}
use Rattle.field.specs.Question.{refusal, accepted, is_width}
use Rattle.field.specs.Answer.{product_of, inverse_of}
use Rattle.field.specs.Laws.{ExponentOf, CubeInjective, IsField}
use Rattle.field.specs.declared.Question.{Question}

-- ---- refusal numbers

-- the number tells which question was answered no
abbrev pub NumbersTell : Type 0
NumbersTell = (q q' : Question) → refusal q ≡ refusal q' → q ≡ q'

-- it is 1 to 21, so that 0 can stand for no refusal
abbrev pub NumbersRange : Type 0
NumbersRange = (q : Question) → (1 ≤ refusal q) × (refusal q ≤ 21)

-- ---- α

-- the powers 0 to 6 of α at width 3
abbrev pub PowersOfAlpha : Type 0
PowersOfAlpha = map (power 3 α) (0 ∷ 1 ∷ 2 ∷ 3 ∷ 4 ∷ 5 ∷ 6 ∷ []) ≡ 1 ∷ 2 ∷ 4 ∷ 3 ∷ 6 ∷ 7 ∷ 5 ∷ []

-- the powers 0 to q-2 of α are the symbols other than 0, each once, and then they begin anew
pub record Generated (m : ℕ) : Type 0 where
  pub symbols : (k : ℕ) → (power m α k < order m) × (power m α k ≢ 0)
  pub every : (a : ℕ) → a ≢ 0 → a < order m → ExponentOf m a
  pub once : (i j : ℕ) → i < order m - 1 → j < order m - 1 → power m α i ≡ power m α j → i ≡ j
  pub anew : power m α (order m - 1) ≡ 1

-- α generates all symbols other than 0
abbrev pub AlphaGenerates : Type 0
AlphaGenerates = (m : ℕ) → is_width m ≡ true → Generated m

-- ---- product and inverse

-- the product of two polynomials with no carry, digit by digit of the first: what its definition says without the bound on the digits
abbrev pub CarrylessSteps : Type 0
CarrylessSteps = (a b : ℕ) → (carryless 0 b ≡ 0) × (carryless a b ≡ add (carryless (a / 2) b * 2) (a % 2 * b))

-- r is what is left of the polynomial c on division by the width's polynomial
pub record Remainder (m c r : ℕ) : Type 0 where
  pub below : r < order m
  pub quotient : ℕ
  pub divided : c ≡ add (carryless quotient (polynomial m)) r

-- a symbol at a width
pub record Symbols (m a b : ℕ) : Type 0 where
  pub width : is_width m ≡ true
  pub first : a < order m
  pub second : b < order m

-- a product is answered exactly for two symbols at a width, and it is the remainder of their product with no carry, and nothing else is
abbrev pub ProductRemainder : Type 0
ProductRemainder = (m a b r : ℕ) → (product_of m a b ≡ accepted r) ↔ (Symbols m a b × Remainder m (carryless a b) r)

-- b is answered as the inverse of a exactly where the product of a and b is answered with 1
abbrev pub InverseInverts : Type 0
InverseInverts = (m a b : ℕ) → (inverse_of m a ≡ accepted b) ↔ (product_of m a b ≡ accepted 1)

-- ---- the laws

-- the four widths are fields
abbrev pub FieldLaws : Type 0
FieldLaws = (m : ℕ) → is_width m ≡ true → IsField m

-- cubing is one to one at the odd widths
abbrev pub CubesOdd : Type 0
CubesOdd = (m : ℕ) → is_width m ≡ true → m % 2 ≡ 1 → CubeInjective m

-- at width 4 it is not: the cube of 6 is 1, as that of 1
abbrev pub CubesFour : Type 0
CubesFour = (power 4 6 3 ≡ 1) × (power 4 1 3 ≡ 1) × (CubeInjective 4 → ⊥)
