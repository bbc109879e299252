-- The text of a report as a table, for people and for awk. Assumes nothing.
use Rattle.std.specs.Prelude.{cond, List, [], ◌∷◌, ◌++◌, ℕ, zero, suc, ◌+◌, eqb, ltb}
use Rattle.code.specs.Word.{at}
use Rattle.card.specs.Listing.{bytes_of, decimal, space, newline, blank_word, more_line}
use Rattle.report.specs.declared.row.Date.{Date}
use Rattle.report.specs.declared.row.Row.{Row}
use Rattle.report.specs.Window.{pumps, refused_at, blank_at, more_at, row_of}

-- ---- numbers and dates

-- the digits of n, with a zero before a single one
unfoldable pub two_digits : ℕ → List ℕ
two_digits n = cond (ltb n 10) (48 ∷ decimal n) (decimal n)

abbrev pub hyphen : ℕ
hyphen = 45

-- YYYY-MM-DD: a report counts years from 2000
unfoldable pub date_text : Date → List ℕ
date_text d = decimal (d.year + 2000) ++ (hyphen ∷ two_digits d.month ++ (hyphen ∷ two_digits d.day))

-- ---- lines

-- the names of the columns: pump sheets starts full highest date quotient remainder
abbrev pub header_line : List ℕ
header_line = bytes_of "pump sheets starts full highest date quotient remainder\n"

-- the first five columns of pump p: its number and its sheets; in the window the starts, the counts of 127, the highest count
unfoldable pub count_fields : ℕ → Row → List ℕ
count_fields p r =
    decimal p
    ++ (space ∷ decimal r.sheets
    ++ (space ∷ decimal r.sum
    ++ (space ∷ decimal r.full
    ++ (space ∷ decimal r.peak.count
    ++ (space ∷ [])))))

-- the line of pump p: these, the earliest date of the highest count, and the mean of starts per sheet as quotient and remainder
unfoldable pub row_line : ℕ → Row → List ℕ
row_line p r =
    count_fields p r
    ++ (date_text r.peak.date
    ++ (space ∷ decimal r.quotient
    ++ (space ∷ decimal r.remainder
    ++ (newline ∷ []))))

-- a pump without sheets has no line
abbrev pub pump_line : List ℕ → ℕ → List ℕ
pump_line report p = cond (eqb (row_of report p).sheets 0) [] (row_line p (row_of report p))

-- the lines of the pumps below p, in rising order
unfoldable pub pump_lines : List ℕ → ℕ → List ℕ
pump_lines report zero = []
pump_lines report (suc p) = pump_lines report p ++ pump_line report p

-- the word refused
abbrev pub refused_word : List ℕ
refused_word = bytes_of "refused"

-- the refused records and the blank slots, always, and the line "more" where the card goes on
unfoldable pub last_lines : List ℕ → List ℕ
last_lines report =
    refused_word
    ++ (space ∷ decimal (at report refused_at)
    ++ (newline ∷ blank_word
    ++ (space ∷ decimal (at report blank_at)
    ++ (newline ∷ cond (eqb (at report more_at) 0) [] more_line))))

-- the whole table
unfoldable pub table_text : List ℕ → List ℕ
table_text report = header_line ++ (pump_lines report pumps ++ last_lines report)
