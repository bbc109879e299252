-- A day sheet: what the data symbols of a codeword of width 7 stand for. Assumes nothing.
use Rattle.std.specs.Prelude.{Bool, List, ◌++◌, ℕ, take, drop, replicate}
use Rattle.code.specs.Word.{at, encode, data_of}
use Rattle.sheet.specs.Calendar.{date_exists}

-- the width of a day sheet
abbrev pub sheet_width : ℕ
sheet_width = 7

-- the quarter hours of a day of standard time: c_0 to c_95 are the compressor starts in each, and 127 means 127 or more
abbrev pub quarters : ℕ
quarters = 96

-- c_96, the year less 2000
abbrev pub year_at : ℕ
year_at = 96

-- c_97, the month
abbrev pub month_at : ℕ
month_at = 97

-- c_98, the day
abbrev pub day_at : ℕ
day_at = 98

-- c_99, the pump
abbrev pub pump_at : ℕ
pump_at = 99

-- the number of symbols c_0 to c_99
abbrev pub sheet_size : ℕ
sheet_size = 100

-- the number of unused symbols c_100 to c_126
abbrev pub unused_size : ℕ
unused_size = 27

-- the date among the symbols exists
abbrev pub is_dated : List ℕ → Bool
is_dated ss = date_exists (at ss year_at) (at ss month_at) (at ss day_at)

-- the data of the day sheet that has these symbols
abbrev pub sheet_data : List ℕ → List ℕ
sheet_data ss = ss ++ replicate unused_size 0

-- the day sheet that has these symbols
abbrev pub sheet_word : List ℕ → List ℕ
sheet_word ss = encode sheet_width (sheet_data ss)

-- the symbols c_0 to c_99 of a word
abbrev pub symbols_of : List ℕ → List ℕ
symbols_of w = take sheet_size (data_of w)

-- the data symbols from c_100 on
abbrev pub unused_symbols : List ℕ → List ℕ
unused_symbols w = drop sheet_size (data_of w)
