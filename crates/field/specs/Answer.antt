-- What the four calls of the field answer on every input. Assumes nothing.
use Rattle.std.specs.Prelude.{Ok, Err, Result}
use Rattle.field.specs.Question.{Verdict}
use Rattle.field.specs.declared.Question.{Question}
use Rattle.std.specs.Prelude.{not, List, [], ◌∷◌, ℕ, eqb}
use Rattle.field.specs.Polynomial.{add}
use Rattle.field.specs.Field.{order, product, power, inverse}
use Rattle.field.specs.Question.{Outcome, accepted, refused, refusal, ask, after, is_width, all_below}
use Rattle.field.specs.declared.Question.TheVariants.{Width, Symbol, Nonzero}

-- the number and the value of each case of the answer
abbrev pub outcome : (Result ℕ Question) → Outcome
outcome (Ok x) = accepted x
outcome (Err q) = refused (refusal q)

-- questions 1 and 7, put to the operands
unfoldable pub operands : ℕ → List ℕ → Verdict
operands m xs = ask (is_width m) Width (ask (all_below (order m) xs) Symbol (Ok tt))

abbrev pub sum_of : ℕ → ℕ → ℕ → Outcome
sum_of m a b = after (operands m (a ∷ b ∷ [])) (accepted (add a b))

abbrev pub product_of : ℕ → ℕ → ℕ → Outcome
product_of m a b = after (operands m (a ∷ b ∷ [])) (accepted (product m a b))

abbrev pub power_of : ℕ → ℕ → ℕ → Outcome
power_of m a e = after (operands m (a ∷ [])) (accepted (power m a e))

-- question 10 comes last
abbrev pub inverse_of : ℕ → ℕ → Outcome
inverse_of m a = after (operands m (a ∷ [])) (after (ask (not (eqb a 0)) Nonzero (Ok tt)) (accepted (inverse m a)))
