-- The Gregorian calendar: leap years, days of a month, dates that exist. Assumes nothing.
use Rattle.std.specs.Prelude.{Bool, cond, not, ◌&&◌, ◌||◌, List, [], ◌∷◌, ℕ, ◌+◌, ◌%◌, eqb, leb}
use Rattle.code.specs.Erasure.{member}

-- a leap year: every fourth year is one, but of the full hundreds only every fourth
unfoldable pub is_leap : ℕ → Bool
is_leap y = eqb (y % 4) 0 && (not (eqb (y % 100) 0) || eqb (y % 400) 0)

-- April, June, September and November
abbrev pub thirty : List ℕ
thirty = 4 ∷ 6 ∷ 9 ∷ 11 ∷ []

-- January, March, May, July, August, October and December
abbrev pub thirty_one : List ℕ
thirty_one = 1 ∷ 3 ∷ 5 ∷ 7 ∷ 8 ∷ 10 ∷ 12 ∷ []

-- the days of a month of the year y; a number that is no month has none
unfoldable pub days_in : ℕ → ℕ → ℕ
days_in y mo = cond (member mo thirty) 30 (cond (eqb mo 2) (cond (is_leap y) 29 28) (cond (member mo thirty_one) 31 0))

-- the year from which a day sheet counts
abbrev pub epoch : ℕ
epoch = 2000

-- question 12: does the date exist? y is the year less 2000
unfoldable pub date_exists : ℕ → ℕ → ℕ → Bool
date_exists y mo d = leb 1 d && leb d (days_in (epoch + y) mo)
