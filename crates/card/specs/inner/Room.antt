-- How long lines are, and how far numbers may grow: what the functions that write texts and count ask of their callers. Assumes nothing.
use Rattle.std.specs.Prelude.{ℕ, ◌+◌, ◌*◌, ◌≤◌}
use Rattle.card.specs.declared.Totals.{Totals}
use Rattle.card.specs.declared.Progress.{Progress}

-- a number has at most 20 digits; with the byte behind it, it is a field of a line
abbrev pub longest_field : ℕ
longest_field = 21

-- the line of a record has four fields; that of a blank slot is shorter
abbrev pub longest_line : ℕ
longest_line = 4 * longest_field

-- the last line has a word of five letters, a space and three fields
abbrev pub longest_total : ℕ
longest_total = 6 + 3 * longest_field

-- no number of the progress is above b
pub record Within (b : ℕ) (s : Progress) : Type 0 where
  pub next : s.next ≤ b
  pub accepted : s.totals.accepted ≤ b
  pub refused : s.totals.refused ≤ b
  pub changed : s.totals.changed ≤ b

-- one slot further, with these totals
abbrev pub further : Progress → Totals → Progress
further s t = record { next = s.next + 1; totals = t }

-- no refusal has more letters
abbrev pub longest_words : ℕ
longest_words = 62

-- two fields, the words and the end of the line
abbrev pub longest_refusal : ℕ
longest_refusal = 2 * longest_field + longest_words + 1
