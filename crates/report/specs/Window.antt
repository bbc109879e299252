-- Starts in a window of the day, counted over a card for each pump. Assumes nothing.
use Rattle.std.specs.Prelude.{Ok}
use Rattle.field.specs.Question.{Verdict}
use Rattle.std.specs.Prelude.{◌≡◌, Bool, cond, ◌&&◌, ◌||◌, List, [], ◌∷◌, ◌++◌, ℕ, ◌+◌, ◌-◌, ◌*◌, ◌/◌, ◌%◌, max, eqb, leb, ltb, length, set, take, drop, replicate}
use Rattle.field.specs.Question.{Outcome, ask}
use Rattle.field.specs.declared.Question.TheVariants.{Length, Window as InWindow}
use Rattle.code.specs.Word.{at}
use Rattle.code.specs.Call.{written, done}
use Rattle.code.specs.Demands.{occurs}
use Rattle.card.specs.Record.{record_size}
use Rattle.card.specs.Slots.{is_blank, over_slots}
use Rattle.card.specs.Listing.{most_records, listed_part}
use Rattle.sheet.specs.Sheet.{quarters, year_at, month_at, day_at, pump_at}
use Rattle.report.specs.Day.{Day, sheet, no_sheet, day_of}
use Rattle.report.specs.declared.row.Window.{Window}
use Rattle.report.specs.declared.row.Date.{Date}
use Rattle.report.specs.declared.row.Peak.{Peak}
use Rattle.report.specs.declared.row.Row.{Row}
use Rattle.report.specs.declared.row.Counts.{Counts}

-- ---- the window

-- document 02's question 21: the first quarter hour is below the end, and that is at most 96
abbrev pub is_window : Window → Bool
is_window w = ltb w.first w.end && leb w.end quarters

-- the counts of a sheet in the window; the end is not included
abbrev pub counts_in : Window → List ℕ → List ℕ
counts_in w ss = take (w.end - w.first) (drop w.first ss)

-- ---- of some counts their sum, how many are 127, and the highest

abbrev pub starts_sum : List ℕ → ℕ
starts_sum [] = 0
starts_sum (x ∷ xs) = x + starts_sum xs

-- means 127 or more, and enters the sum as 127
abbrev pub full_count : ℕ
full_count = 127

abbrev pub highest_of : List ℕ → ℕ
highest_of [] = 0
highest_of (x ∷ xs) = max x (highest_of xs)

unfoldable pub counts_of : List ℕ → Counts
counts_of xs = record { sum = starts_sum xs; full = occurs full_count xs; highest = highest_of xs }

-- ---- dates

-- the date of a sheet, c_96 to c_98
abbrev pub date_of : List ℕ → Date
date_of ss = record { year = at ss year_at; month = at ss month_at; day = at ss day_at }

-- is x below y, or equal to it and the rest so ordered?
abbrev pub below : ℕ → ℕ → Bool → Bool
below x y rest = cond (eqb x y) rest (ltb x y)

-- the order of dates by the calendar: year, month, day
unfoldable pub earlier : Date → Date → Bool
earlier a b = below a.year b.year (below a.month b.month (ltb a.day b.day))

-- ---- the row of a pump

-- a further sheet's highest count leads where it is the first sheet's, or higher, or as high on an earlier date
unfoldable pub leads : ℕ → Peak → Peak → Bool
leads sheets old new = eqb sheets 0 || below old.count new.count (earlier new.date old.date)

abbrev pub peak_of : ℕ → Peak → Peak → Peak
peak_of sheets old new = cond (leads sheets old new) new old

-- the row with a further sheet, which has these counts in the window and this date
abbrev pub row_after : Row → Counts → Date → Row
row_after r c d = record {
  sheets = r.sheets + 1;
  sum = r.sum + c.sum;
  full = r.full + c.full;
  peak = peak_of r.sheets r.peak (record { count = c.highest; date = d });
  quotient = (r.sum + c.sum) / (r.sheets + 1);
  remainder = (r.sum + c.sum) % (r.sheets + 1);
}

unfoldable pub row_with : Window → Row → List ℕ → Row
row_with w r ss = row_after r (counts_of (counts_in w ss)) (date_of ss)

-- ---- the report: a row of nine numbers for each pump, and three numbers more

abbrev pub pumps : ℕ
pumps = 128

abbrev pub row_size : ℕ
row_size = 9

-- the number of refused records
abbrev pub refused_at : ℕ
refused_at = pumps * row_size

-- the number of blank slots
abbrev pub blank_at : ℕ
blank_at = refused_at + 1

-- 1 where the card has a record behind those that were looked at
abbrev pub more_at : ℕ
more_at = refused_at + 2

abbrev pub report_size : ℕ
report_size = refused_at + 3

-- the row that stands in nine numbers
abbrev pub row_from : List ℕ → Row
row_from xs = record {
  sheets = at xs 0;
  sum = at xs 1;
  full = at xs 2;
  peak = record { count = at xs 3; date = record { year = at xs 4; month = at xs 5; day = at xs 6 } };
  quotient = at xs 7;
  remainder = at xs 8;
}

-- the numbers of a row
abbrev pub row_numbers : Row → List ℕ
row_numbers r =
    r.sheets ∷ r.sum ∷ r.full ∷ r.peak.count ∷ r.peak.date.year ∷ r.peak.date.month ∷ r.peak.date.day
    ∷ r.quotient ∷ r.remainder ∷ []

-- the row of pump p
abbrev pub row_of : List ℕ → ℕ → Row
row_of report p = row_from (take row_size (drop (p * row_size) report))

-- the report with this row of pump p
unfoldable pub with_row : List ℕ → ℕ → Row → List ℕ
with_row report p r = take (p * row_size) report ++ (row_numbers r ++ drop row_size (drop (p * row_size) report))

-- the report with one more in the number at this place
abbrev pub one_more : ℕ → List ℕ → List ℕ
one_more i report = set report i (at report i + 1)

-- ---- the count over a card, slot by slot, from a report on

-- with a record: a sheet enters the row of its pump; what is no sheet counts as refused
abbrev pub day_added : Window → List ℕ → Day → List ℕ
day_added w report (sheet k ss) = with_row report (at ss pump_at) (row_with w (row_of report (at ss pump_at)) ss)
day_added w report (no_sheet n) = one_more refused_at report

-- with a slot: blank, or a record
unfoldable pub slot_added : Window → List ℕ → List ℕ → List ℕ
slot_added w report slot = cond (is_blank slot) (one_more blank_at report) (day_added w report (day_of slot))

-- with all slots of a part of a card
abbrev pub part_added : Window → List ℕ → List ℕ → List ℕ
part_added w report part = over_slots (slot_added w) report part

-- before the first slot: every number is 0
abbrev pub no_report : List ℕ
no_report = replicate report_size 0

-- the card ends with the slots that were looked at, or goes on
abbrev pub finished : List ℕ → Bool → List ℕ
finished report more = set report more_at (cond more 1 0)

-- does the card go on behind the records that are looked at, 1,000,000 at most?
abbrev pub goes_on : List ℕ → Bool
goes_on card = ltb (most_records * record_size) (length card)

-- ---- the call

-- the report of a card
unfoldable pub report_of : Window → List ℕ → List ℕ
report_of w card = finished (part_added w no_report (listed_part card)) (goes_on card)

-- the window of two numbers, as a call with plain numbers has it
abbrev pub window_from : ℕ → ℕ → Window
window_from first end = record { first = first; end = end }

-- question 21, then question 2, put to a report of n numbers
unfoldable pub window_asked : Window → ℕ → Verdict
window_asked w n = ask (is_window w) InWindow (ask (eqb n report_size) Length (Ok tt))

-- what the call answers
abbrev pub window_of : Window → List ℕ → Outcome
window_of w report = done (window_asked w (length report))

-- the report after the call; on a refusal it stays as it was
abbrev pub window_written : Window → List ℕ → List ℕ → List ℕ
window_written w card report = written (window_asked w (length report)) report (report_of w card)

-- the call's promise: what it answers and leaves in the report
pub record ReportsWindow (w : Window) (card old : List ℕ) (v : Verdict) (new : List ℕ) : Type 0 where
  pub answer : done v ≡ window_of w old
  pub content : new ≡ window_written w card old
