-- How long a number is, and the lines of date and pump. Assumes nothing.
use Rattle.std.specs.Prelude.{ℕ, ◌+◌}
use Rattle.card_csv.specs.inner.Room.{date_size}

-- a number has at most 20 digits
abbrev pub longest_digits : ℕ
longest_digits = 20

-- the lines of date and pump
abbrev pub longest_dated : ℕ
longest_dated = 12 + date_size + longest_digits
