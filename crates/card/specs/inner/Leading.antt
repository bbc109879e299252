-- How many questions a record or some slots pass, and what is written of some slots. Assumes nothing.
use Rattle.std.specs.Prelude.{Bool, true, List, [], ℕ, leb}
use Rattle.card.specs.Record.{count_of}
use Rattle.card.specs.Slots.{over_first, appended}
use Rattle.card.specs.Conversion.{converted, also_to, at_most_four}
use Rattle.card.specs.Leading.{leading, answers}

-- how many of the questions 1, 3, 4 and a last one, which allows so many erasures, a record passes
unfoldable pub record_passes : ℕ → ℕ → List ℕ → ℕ
record_passes k most r = leading (answers k (λ s. leb (count_of s) most) (λ p. p r))

-- a question, put to the first n slots of a card
abbrev pub every : ℕ → (List ℕ → Bool) → List ℕ → ℕ → Bool
every k p card n = over_first k (also_to k p) true card n

-- the four questions, put to them
unfoldable pub card_passes : ℕ → List ℕ → ℕ → ℕ
card_passes k card n = leading (answers k at_most_four (λ p. every k p card n))

-- what is written of the first n slots, where records have j erasure bytes in the output
abbrev pub converted_slots : ℕ → ℕ → List ℕ → ℕ → List ℕ
converted_slots k j card n = over_first k (appended (converted k j)) [] card n
