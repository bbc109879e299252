-- How many of the questions that are put to records are passed, one after the other, before the first that is not: the words in which the
-- functions that put them speak. Assumes nothing.
use Rattle.std.specs.Prelude.{Ok, Err}
use Rattle.field.specs.Question.{Verdict}
use Rattle.std.specs.Prelude.{Bool, true, false, List, [], ◌∷◌, ℕ, zero, suc}
use Rattle.field.specs.declared.Question.TheVariants.{Width, ErasureCount, Padding, FourErasures}
use Rattle.card.specs.Record.{has_width, few_in, padded_in}
use Rattle.card.specs.Conversion.{blank_or, at_most_four}

-- the number of yeses before the first no
abbrev pub leading : List Bool → ℕ
leading [] = 0
leading (true ∷ bs) = suc (leading bs)
leading (false ∷ bs) = 0

-- questions 1, 3 and 4 and a last one, put in some way
abbrev pub answers : ℕ → (List ℕ → Bool) → ((List ℕ → Bool) → Bool) → List Bool
answers k last put = put has_width ∷ put (few_in k) ∷ put (padded_in k) ∷ put last ∷ []

-- to a slot; the last one is question 15
unfoldable pub slot_passes : ℕ → List ℕ → ℕ
slot_passes k slot = leading (answers k at_most_four (λ p. blank_or k p slot))

-- the verdict where so many are passed
abbrev pub verdict_at : ℕ → Verdict
verdict_at zero = Err Width
verdict_at (suc zero) = Err ErasureCount
verdict_at (suc (suc zero)) = Err Padding
verdict_at (suc (suc (suc zero))) = Err FourErasures
verdict_at (suc (suc (suc (suc n)))) = (Ok tt)
