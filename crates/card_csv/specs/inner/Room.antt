-- How long texts and their parts are, and how far counts may grow. Assumes nothing.
use Rattle.std.specs.Prelude.{ℕ, ◌+◌, ◌*◌, ◌≤◌}
use Rattle.card.specs.Record.{record_size}
use Rattle.sheet.specs.Sheet.{quarters}
use Rattle.card_csv.specs.declared.Counts.{Counts}

-- a number below 1000
abbrev pub small_size : ℕ
small_size = 3

-- a time
abbrev pub clock_size : ℕ
clock_size = 5

-- a comma and a time
abbrev pub time_size : ℕ
time_size = 1 + clock_size

-- a comma and a count
abbrev pub count_size : ℕ
count_size = 4

-- a date
abbrev pub date_size : ℕ
date_size = 10

-- ---- what is written, and how far counts may grow

-- the room that the header needs: 22 letters, 96 times with a comma, and the end of the line
abbrev pub header_room : ℕ
header_room = 22 + quarters * 6 + 1

-- the room that the line of the counts needs: words and three numbers of 20 digits, a byte behind each
abbrev pub longest_tally : ℕ
longest_tally = 25 + 3 * 21

-- no count is above b
pub record TallyWithin (b : ℕ) (s : Counts) : Type 0 where
  pub next : s.next ≤ b
  pub sheets : s.sheets ≤ b
  pub others : s.others ≤ b
  pub blanks : s.blanks ≤ b

-- ---- a text in parts

-- at most so many bytes of a text at once
abbrev pub text_size : ℕ
text_size = 8192

-- and the room for their records: a line of a sheet has at least 98 bytes with its end
abbrev pub records_room : ℕ
records_room = 83 * record_size
