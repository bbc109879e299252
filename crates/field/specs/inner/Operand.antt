-- Symbols at a width of the field. Assumes nothing.
use Rattle.std.specs.Prelude.{◌≡◌, true, cond, ℕ, zero, ◌<◌}
use Rattle.field.specs.Polynomial.{add, carryless, digits, digits_from}
use Rattle.field.specs.Field.{order, polynomial, reduce, double, remainder, product, power, inverse}
use Rattle.field.specs.Question.{is_width}

-- a symbol at a width of the field: what a call below the questions needs to be right
pub record Operand (m a : ℕ) : Type 0 where
  pub width : is_width m ≡ true
  pub symbol : a < order m

-- q, or 0 where the width is none of the field's
abbrev pub order_of : ℕ → ℕ
order_of m = cond (is_width m) (order m) 0

-- `unfolding arithmetic` opens every definition of Polynomial.antt and Field.antt, for a fact that is computed
unfoldable pub arithmetic : ℕ
unfolding add carryless digits digits_from polynomial reduce double remainder product power inverse
arithmetic = zero
