-- A quarter hour of the day as people write it. Assumes nothing.
use Rattle.std.specs.Prelude.{Some, None, Option, Bool, cond, ◌||◌, List, ◌∷◌, ◌++◌, ℕ, zero, suc, ◌+◌, ◌*◌, ◌/◌, ◌%◌}
use Rattle.code.specs.Call.{same_bytes}
use Rattle.card.specs.Listing.{decimal}
use Rattle.sheet.specs.Sheet.{quarters}
use Rattle.report.specs.Table.{two_digits}

abbrev pub colon : ℕ
colon = 58

-- the time at which quarter hour n begins, hh:mm; that of 96 is 24:00
unfoldable pub clock_text : ℕ → List ℕ
clock_text n = two_digits (n / 4) ++ (colon ∷ two_digits (n % 4 * 15))

-- the two texts of quarter hour n: its number, and its time
unfoldable pub is_quarter : List ℕ → ℕ → Bool
is_quarter text n = same_bytes text (decimal n) || same_bytes text (clock_text n)

-- the quarter hour below n that the text stands for
unfoldable pub quarter_below : List ℕ → ℕ → Option ℕ
quarter_below text zero = None
quarter_below text (suc n) = cond (is_quarter text n) (Some n) (quarter_below text n)

-- the quarter hour that the text stands for: 0 to 96, which ends the day
abbrev pub quarter_of : List ℕ → Option ℕ
quarter_of text = quarter_below text (quarters + 1)
