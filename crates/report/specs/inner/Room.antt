-- How long texts are, and how far the numbers of a report may grow. Assumes nothing.
use Rattle.std.specs.Prelude.{List, [], ◌∷◌, ◌≡◌, ℕ, ◌+◌, ◌*◌, ◌≤◌, length}
use Rattle.card.specs.inner.Room.{longest_field}
use Rattle.report.specs.declared.row.Row.{Row}
use Rattle.report.specs.Window.{pumps, full_count, report_size}
use Rattle.sheet.specs.Sheet.{quarters}

-- a number, which has at most 20 digits
abbrev pub longest_number : ℕ
longest_number = 20

-- a date is three numbers with two hyphens
abbrev pub longest_date : ℕ
longest_date = 2 + 3 * longest_number

-- the first five columns of a line
abbrev pub longest_counts : ℕ
longest_counts = 5 * longest_field

-- a line: these, a date with a space, and two fields
abbrev pub longest_row : ℕ
longest_row = longest_counts + (longest_date + 1) + 2 * longest_field

-- two words with their fields, and the line "more"
abbrev pub longest_last : ℕ
longest_last = (8 + longest_field) + (6 + longest_field) + 5

-- the whole table
abbrev pub longest_table : ℕ
longest_table = 56 + pumps * longest_row + longest_last

abbrev pub longest_clock : ℕ
longest_clock = 1 + 2 * longest_number

-- no number is above b
abbrev pub AllWithin : ℕ → List ℕ → Type 0
AllWithin b [] = Unit
AllWithin b (x ∷ xs) = (x ≤ b) × AllWithin b xs

pub record Countable (b : ℕ) (report : List ℕ) : Type 0 where
  pub size : length report ≡ report_size
  pub within : AllWithin b report

-- a slot adds no more than this to a number: 96 counts of 127
abbrev pub day_most : ℕ
day_most = quarters * full_count

-- the numbers of a row that a sheet adds to are at most b
pub record Most (b : ℕ) (r : Row) : Type 0 where
  pub sheets : r.sheets ≤ b
  pub sum : r.sum ≤ b
  pub full : r.full ≤ b
