-- The text of a card in batches. Assumes nothing.
use Rattle.std.specs.Prelude.{ℕ, ◌+◌, ◌*◌}
use Rattle.card.specs.Record.{record_size}
use Rattle.sheet.specs.Sheet.{quarters}

-- a batch has at most so many slots
abbrev pub sheet_slots : ℕ
sheet_slots = 100

-- and at most so many bytes
abbrev pub sheet_batch : ℕ
sheet_batch = sheet_slots * record_size

-- a line: 20 digits of the slot, a date, pump and changed places of 3 digits, with a comma behind each but the last; then a comma and 3 digits for
-- each count, and the end of the line
abbrev pub longest_sheet : ℕ
longest_sheet = 21 + 11 + 4 + 3 + quarters * 4 + 1

-- the room that a batch's text needs
abbrev pub longest_sheets : ℕ
longest_sheets = sheet_slots * longest_sheet
