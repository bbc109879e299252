-- A line of a text that is taken. Assumes nothing.
use Rattle.std.specs.Prelude.{◌≡◌, List, [], ◌∷◌, ◌++◌, ℕ, ◌+◌, ◌≤◌, ◌<◌, length, take, drop}
use Rattle.card.specs.Record.{record_size}
use Rattle.card_csv.specs.Making.{lines_from}

-- the line with which a text begins ends behind n bytes
pub record EndsLine (text : List ℕ) (n : ℕ) : Type 0 where
  pub inside : n < length text
  pub cut : (more : List ℕ) → lines_from [] (text ++ more) ≡ take n text ∷ lines_from [] (drop (n + 1) text ++ more)

-- no line of a sheet is shorter than the separators of its 98 columns
abbrev pub shortest_line : ℕ
shortest_line = 97

-- there is room for the record of the line, if it is long enough to have one
abbrev pub HasRoom : List ℕ → ℕ → Type 0
HasRoom line room = shortest_line ≤ length line → record_size ≤ room
