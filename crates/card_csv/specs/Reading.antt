-- What a line of CSV stands for: the symbols of a day sheet, or what is wrong with it. Columns are read from left to right, and the first that
-- is wrong tells. Assumes nothing.
use Rattle.std.specs.Prelude.{Ok, Err, Result, Some, None, Option, Bool, true, false, cond, ◌&&◌, List, [], ◌∷◌, ◌++◌, ℕ, zero, suc, ◌+◌, ◌-◌, ◌*◌, eqb, leb, ltb, length, get_or, take}
use Rattle.field.specs.Field.{order}
use Rattle.code.specs.Word.{at}
use Rattle.code.specs.Demands.{occurs}
use Rattle.sheet.specs.Calendar.{epoch, date_exists}
use Rattle.sheet.specs.Sheet.{sheet_width, quarters}
use Rattle.report.specs.Table.{hyphen}
use Rattle.code.specs.Call.{same_bytes}
use Rattle.card_csv.specs.Text.{separator, header_with}
use Rattle.card_csv.specs.declared.Fault.{Fault}
use Rattle.card_csv.specs.declared.Fault.TheVariants.{Columns, Number, Date, Pump, Count}
use Rattle.card_csv.specs.declared.Header.{Header}
use Rattle.card_csv.specs.declared.Header.TheVariants.{Full, Short, Other}
use Rattle.card_csv.specs.declared.fields.SheetDate.{SheetDate}

-- ---- columns

abbrev pub carriage_return : ℕ
carriage_return = 13

-- a line without the carriage return at its end
unfoldable pub trimmed : List ℕ → List ℕ
trimmed line = cond (eqb (get_or line (length line - 1) 0) carriage_return) (take (length line - 1) line) line

-- there is one column more than there are commas
abbrev pub column_count : List ℕ → ℕ
column_count text = occurs separator text + 1

-- the first column, what stands before the first separator
unfoldable pub first_column : List ℕ → List ℕ
first_column [] = []
first_column (x ∷ xs) = cond (eqb x separator) [] (x ∷ first_column xs)

-- the other columns, what stands behind the first separator
unfoldable pub other_columns : List ℕ → List ℕ
other_columns [] = []
other_columns (x ∷ xs) = cond (eqb x separator) xs (other_columns xs)

-- ---- numbers

-- a decimal digit
unfoldable pub is_digit : ℕ → Bool
is_digit x = leb 48 x && leb x 57

-- nothing but digits
unfoldable pub all_digits : List ℕ → Bool
all_digits [] = true
all_digits (x ∷ xs) = is_digit x && all_digits xs

-- a decimal number of at most m digits
unfoldable pub is_decimal : ℕ → List ℕ → Bool
is_decimal m xs = leb 1 (length xs) && (leb (length xs) m && all_digits xs)

-- the number that digits stand for, where those before them stand for v
unfoldable pub decimal_from : ℕ → List ℕ → ℕ
decimal_from v [] = v
decimal_from v (x ∷ xs) = decimal_from (v * 10 + (x - 48)) xs

-- the number that digits stand for
abbrev pub value_of : List ℕ → ℕ
value_of xs = decimal_from 0 xs

-- the symbol that a column stands for, or what is wrong with it
abbrev pub Symbol : Type 0
Symbol = Result ℕ Fault

-- a symbol: a number of at most three digits, and below 128; one that is not is the fault f
unfoldable pub symbol_in : Fault → List ℕ → Symbol
symbol_in f xs = cond (is_decimal 3 xs) (cond (ltb (value_of xs) (order sheet_width)) (Ok (value_of xs)) (Err f)) (Err Number)

-- ---- dates

-- the two digits at place i as a number
unfoldable pub two_at : List ℕ → ℕ → Option ℕ
two_at xs i = cond (is_digit (at xs i) && is_digit (at xs (i + 1))) (Some ((at xs i - 48) * 10 + (at xs (i + 1) - 48))) None

-- the year of these hundreds and what is left
abbrev pub hundreds : Option ℕ → Option ℕ → Option ℕ
hundreds (Some a) (Some b) = Some (a * 100 + b)
hundreds (Some a) None = None
hundreds None b = None

-- the first four digits as a number
unfoldable pub year_in : List ℕ → Option ℕ
year_in xs = hundreds (two_at xs 0) (two_at xs 2)

-- the date, if it exists and its year is one that a sheet can hold: 2000 to 2127
unfoldable pub date_from : ℕ → ℕ → ℕ → Option SheetDate
date_from y mo d =
    cond (leb epoch y && (ltb y (epoch + order sheet_width) && date_exists (y - epoch) mo d))
    (Some (record { year = y - epoch; month = mo; day = d })) None

-- the date of these numbers, if each is one
abbrev pub date_of_parts : Option ℕ → Option ℕ → Option ℕ → Option SheetDate
date_of_parts (Some y) (Some mo) (Some d) = date_from y mo d
date_of_parts (Some y) (Some mo) None = None
date_of_parts (Some y) None d = None
date_of_parts None mo d = None

-- ten bytes with two hyphens
unfoldable pub has_hyphens : List ℕ → Bool
has_hyphens xs = eqb (length xs) 10 && (eqb (at xs 4) hyphen && eqb (at xs 7) hyphen)

-- the date YYYY-MM-DD
unfoldable pub date_in : List ℕ → Option SheetDate
date_in xs = cond (has_hyphens xs) (date_of_parts (year_in xs) (two_at xs 5) (two_at xs 8)) None

-- ---- counts

-- the counts of some columns, or what is wrong with one
abbrev pub Row : Type 0
Row = Result (List ℕ) Fault

-- with a count before the others
abbrev pub counted_row : Symbol → Row → Row
counted_row (Ok n) (Ok xs) = Ok (n ∷ xs)
counted_row (Ok n) (Err f) = Err f
counted_row (Err f) r = Err f

-- the counts of n columns
unfoldable pub read_counts : ℕ → List ℕ → Row
read_counts zero text = Ok []
read_counts (suc n) text = counted_row (symbol_in Count (first_column text)) (read_counts n (other_columns text))

-- a column that has to be a number, whichever, before others
abbrev pub numbered : List ℕ → Row → Row
numbered column r = cond (is_decimal 20 column) r (Err Number)

-- the counts of a day, behind the number of changed places where there is that column
unfoldable pub day_counts : Bool → List ℕ → Row
day_counts true text = numbered (first_column text) (read_counts quarters (other_columns text))
day_counts false text = read_counts quarters text

-- ---- lines

-- what a line stands for: the symbols of a sheet, or what is wrong with it
abbrev pub Line : Type 0
Line = Result (List ℕ) Fault

-- the symbols of a date and a pump
abbrev pub symbols_read : SheetDate → ℕ → List ℕ
symbols_read d p = d.year ∷ d.month ∷ d.day ∷ p ∷ []

-- the counts, then date and pump
abbrev pub counts_rest : SheetDate → ℕ → Row → Line
counts_rest d p (Ok xs) = Ok (xs ++ symbols_read d p)
counts_rest d p (Err f) = Err f

-- of a line with this date
abbrev pub pump_rest : SheetDate → Symbol → Row → Line
pump_rest d (Ok p) r = counts_rest d p r
pump_rest d (Err f) r = Err f

-- of a line with this first column
abbrev pub date_line : Option SheetDate → Symbol → Row → Line
date_line (Some d) s r = pump_rest d s r
date_line None s r = Err Date

-- date, pump, the number of changed places where there is that column, and the counts
unfoldable pub day_read : Bool → List ℕ → Line
day_read full text =
    date_line (date_in (first_column text)) (symbol_in Pump (first_column (other_columns text)))
    (day_counts full (other_columns (other_columns text)))

-- the slot's number before them, where there is that column
unfoldable pub columns_in : Bool → List ℕ → Line
columns_in true text = cond (is_decimal 20 (first_column text)) (day_read true (other_columns text)) (Err Number)
columns_in false text = day_read false text

-- the columns of a line: 96 counts, date and pump; slot and changed places where there are these columns
abbrev pub columns_of : Bool → ℕ
columns_of true = 4 + quarters
columns_of false = 2 + quarters

-- what a line stands for, with the columns slot and changed, or without
unfoldable pub read_line : Bool → List ℕ → Line
read_line full line =
    cond (eqb (column_count (trimmed line)) (columns_of full)) (columns_in full (trimmed line)) (Err Columns)

-- ---- the header

-- which columns the header names
unfoldable pub header_in : List ℕ → Header
header_in line = cond (same_bytes (trimmed line) (header_with true)) Full (cond (same_bytes (trimmed line) (header_with false)) Short Other)
