-- The demands on day sheets of cards, as statements about the definitions. The calls' contracts say that they answer by these definitions;
-- proofs/Demands.antt proves each statement under the same name in small letters. Assumes nothing.
use Rattle.std.specs.Prelude.{Some, ◌≡◌, ◌↔◌, ◌⊎◌, true, false, cond, List, [], ◌++◌, ℕ, zero, suc, ◌+◌, ◌-◌, ◌*◌, ◌≤◌, ◌<◌, min, eqb, ltb, length, replicate}
use Rattle.std.specs.Borrow.{Bor}
use Rattle.field.specs.Question.{accepted, refused}
use Rattle.code.specs.Word.{at}
use Rattle.code.specs.Demands.{occurs}
use Rattle.card.specs.Record.{erasure_bytes, record_size}
use Rattle.card.specs.Slots.{record_count, record_at, is_blank, over_first}
use Rattle.card.specs.Card.{LiesAt}
use Rattle.card.specs.Listing.{decimal, most_records}
use Rattle.sheet.specs.Calendar.{epoch, days_in}
use Rattle.sheet.specs.Sheet.{quarters, pump_at}
use Rattle.report.specs.Day.{has_record, slot_of, Day, sheet, no_sheet, day_of}
use Rattle.report.specs.Compare.{sign_of, same_day, chosen_of, symbols_at, compare_of, compare_signs, compare_total, compare_part, HandsBack}
use Rattle.report.specs.Window.{is_window, counts_in, starts_sum, full_count, date_of, earlier, pumps, row_size, refused_at, blank_at, more_at}
use Rattle.report.specs.Window.{row_from, row_of, part_added, report_of}
use Rattle.report.specs.Quarter.{clock_text, quarter_of}
use Rattle.report.specs.declared.row.Window.{Window}
use Rattle.report.specs.declared.row.Date.{Date}
use Rattle.report.specs.declared.row.Peak.{Peak}
use Rattle.report.specs.declared.row.Row.{Row}

-- ---- two day sheets side by side: record i of the controller's card c, and record j of the cupboard's card d

-- both numbers are those of records, both records are day sheets, of one pump and date, and w is the one with fewer changed places
pub record Agreed (c : List ℕ) (i : ℕ) (d : List ℕ) (j w : ℕ) : Type 0 where
  pub k : ℕ
  pub l : ℕ
  pub ss : List ℕ
  pub ts : List ℕ
  pub number : has_record c i ≡ true
  pub other-number : has_record d j ≡ true
  pub controller : day_of (slot_of c i) ≡ sheet k ss
  pub cupboard : day_of (slot_of d j) ≡ sheet l ts
  pub same : same_day ss ts ≡ true
  pub chosen : w ≡ chosen_of k l

-- both numbers are those of records and both records are day sheets, but not of one pump and date
pub record Disagreed (c : List ℕ) (i : ℕ) (d : List ℕ) (j : ℕ) : Type 0 where
  pub k : ℕ
  pub l : ℕ
  pub ss : List ℕ
  pub ts : List ℕ
  pub number : has_record c i ≡ true
  pub other-number : has_record d j ≡ true
  pub controller : day_of (slot_of c i) ≡ sheet k ss
  pub cupboard : day_of (slot_of d j) ≡ sheet l ts
  pub other : same_day ss ts ≡ false

-- these are compared, and nothing else is
abbrev pub CompareAccepts : Type 0
CompareAccepts = (c : List ℕ) (i : ℕ) (d : List ℕ) (j w : ℕ) → (compare_of c i d j ≡ accepted w) ↔ Agreed c i d j w

-- what is refused, in its order: a number outside its card gives 17 before all else; then the controller's refusal, of restoring or reading,
-- comes before the cupboard's; and 20 comes last, where both are day sheets
pub record CompareRefused (c : List ℕ) (i : ℕ) (d : List ℕ) (j : ℕ) : Type 0 where
  pub number : (compare_of c i d j ≡ refused 17) ↔ ((has_record c i ≡ false) ⊎ (has_record d j ≡ false))
  pub controller : has_record c i ≡ true → has_record d j ≡ true → (n : ℕ) → day_of (slot_of c i) ≡ no_sheet n → compare_of c i d j ≡ refused n
  pub cupboard : has_record c i ≡ true → has_record d j ≡ true → (k : ℕ) (ss : List ℕ) → day_of (slot_of c i) ≡ sheet k ss
      → (n : ℕ) → day_of (slot_of d j) ≡ no_sheet n → compare_of c i d j ≡ refused n
  pub other-day : (compare_of c i d j ≡ refused 20) ↔ Disagreed c i d j

abbrev pub CompareRefuses : Type 0
CompareRefuses = (c : List ℕ) (i : ℕ) (d : List ℕ) (j : ℕ) → CompareRefused c i d j

-- each quarter hour then has the sign of its two counts
abbrev pub SignsStand : Type 0
SignsStand =
    (c : List ℕ) (i : ℕ) (d : List ℕ) (j w : ℕ) → compare_of c i d j ≡ accepted w
    → (p : ℕ) → p < quarters → at (compare_signs c i d j) p ≡ sign_of (at (symbols_at c i) p) (at (symbols_at d j) p)

-- each total counts its sign
abbrev pub TotalsCount : Type 0
TotalsCount =
    (c : List ℕ) (i : ℕ) (d : List ℕ) (j w : ℕ) → compare_of c i d j ≡ accepted w
    → (s : ℕ) → compare_total c i d j s ≡ occurs s (compare_signs c i d j)

-- and the three make 96
abbrev pub TotalsMake : Type 0
TotalsMake =
    (c : List ℕ) (i : ℕ) (d : List ℕ) (j w : ℕ) → compare_of c i d j ≡ accepted w
    → compare_total c i d j 0 + compare_total c i d j 1 + compare_total c i d j 2 ≡ quarters

-- the part is a whole slot of the lent card, that with the number n: byte for byte, and in the card's own memory
pub record StandsAt (card : Bor (List ℕ)) (n : ℕ) (part : Bor (List ℕ)) : Type 0 where
  pub number : has_record card.now n ≡ true
  pub size : length part.now ≡ record_size
  pub bytes : (p : ℕ) → p < record_size → at part.now p ≡ at card.now ((n - 1) * record_size + p)
  pub lies : LiesAt card ((n - 1) * record_size) part

-- the part that compare_sheets hands back is the chosen record's slot on its own card: x is the controller's as lent, y the cupboard's
abbrev pub PartStands : Type 0
PartStands =
    (x : Bor (List ℕ)) (i : ℕ) (y : Bor (List ℕ)) (j : ℕ) (part : Bor (List ℕ)) → HandsBack x i y j part
    → (compare_of x.now i y.now j ≡ accepted 1 → StandsAt x i part)
    × (compare_of x.now i y.now j ≡ accepted 2 → StandsAt y j part)

-- on a refusal every number is 0 and the part is empty
abbrev pub RefusedNothing : Type 0
RefusedNothing =
    (c : List ℕ) (i : ℕ) (d : List ℕ) (j n : ℕ) → compare_of c i d j ≡ refused n
    → (compare_signs c i d j ≡ replicate quarters 0) × ((s : ℕ) → compare_total c i d j s ≡ 0) × (compare_part c i d j ≡ [])

-- ---- starts in a window: the report of a card

-- the number of slots that are looked at: all of the card, 1,000,000 at most
abbrev pub looked : List ℕ → ℕ
looked card = min (record_count (length card)) most_records

-- the sheets of the pumps below p
unfoldable pub sheets_below : ℕ → List ℕ → ℕ
sheets_below zero report = 0
sheets_below (suc p) report = sheets_below p report + (row_of report p).sheets

-- the sheets of all pumps, the refused records and the blank slots together are the slots that were looked at
abbrev pub AllCounted : Type 0
AllCounted =
    (w : Window) (card : List ℕ) → is_window w ≡ true
    → (sheets_below pumps (report_of w card) + at (report_of w card) refused_at + at (report_of w card) blank_at ≡ looked card) × (looked card ≤ most_records)

-- a step: a number of the slot is added
abbrev pub summed : (List ℕ → ℕ) → ℕ → List ℕ → ℕ
summed f n slot = n + f slot

-- a number of each slot, added up over the slots that are looked at
abbrev pub total_over : (List ℕ → ℕ) → List ℕ → ℕ
total_over f card = over_first erasure_bytes (summed f) 0 card (looked card)

-- a number of the symbols of a day sheet of pump p, and 0 of every other slot
abbrev pub of_sheet : ℕ → (List ℕ → ℕ) → Day → ℕ
of_sheet p f (sheet k ss) = cond (eqb (at ss pump_at) p) (f ss) 0
of_sheet p f (no_sheet n) = 0

abbrev pub of_pump : ℕ → (List ℕ → ℕ) → List ℕ → ℕ
of_pump p f slot = of_sheet p f (day_of slot)

-- the report's numbers of a pump are totals over its sheets: their number, the sum of their counts in the window, and how many of these are 127
pub record PumpTotals (w : Window) (card : List ℕ) (p : ℕ) (r : Row) : Type 0 where
  pub sheets : r.sheets ≡ total_over (of_pump p (λ ss. 1)) card
  pub sum : r.sum ≡ total_over (of_pump p (λ ss. starts_sum (counts_in w ss))) card
  pub full : r.full ≡ total_over (of_pump p (λ ss. occurs full_count (counts_in w ss))) card

abbrev pub TotalsStand : Type 0
TotalsStand = (w : Window) (card : List ℕ) (p : ℕ) → is_window w ≡ true → p < pumps → PumpTotals w card p (row_of (report_of w card) p)

-- 1 for a blank slot
abbrev pub one_blank : List ℕ → ℕ
one_blank slot = cond (is_blank slot) 1 0

-- 1 for a record that is no day sheet
abbrev pub one_unread : Day → ℕ
one_unread (sheet k ss) = 0
one_unread (no_sheet n) = 1

abbrev pub one_refused : List ℕ → ℕ
one_refused slot = cond (is_blank slot) 0 (one_unread (day_of slot))

-- refused records and blank slots are counted, each kind by itself
abbrev pub KindsCounted : Type 0
KindsCounted =
    (w : Window) (card : List ℕ) → is_window w ≡ true
    → (at (report_of w card) refused_at ≡ total_over one_refused card)
    × (at (report_of w card) blank_at ≡ total_over one_blank card)

-- the last number is 1 where the card has more than 1,000,000 records, else 0
abbrev pub MoreSaid : Type 0
MoreSaid =
    (w : Window) (card : List ℕ) → is_window w ≡ true
    → (most_records < record_count (length card) → at (report_of w card) more_at ≡ 1)
    × (record_count (length card) ≤ most_records → at (report_of w card) more_at ≡ 0)

-- the row of a pump without sheets
abbrev pub no_row : Row
no_row = row_from (replicate row_size 0)

-- the quotient times the sheets, with the remainder, is the sum, and the remainder is below the sheets; without sheets all is 0
abbrev pub MeanStands : Type 0
MeanStands =
    (w : Window) (card : List ℕ) (p : ℕ) → is_window w ≡ true → p < pumps
    → (0 < (row_of (report_of w card) p).sheets
    → ((row_of (report_of w card) p).quotient * (row_of (report_of w card) p).sheets + (row_of (report_of w card) p).remainder ≡ (row_of (report_of w card) p).sum)
    × ((row_of (report_of w card) p).remainder < (row_of (report_of w card) p).sheets))
    × ((row_of (report_of w card) p).sheets ≡ 0 → row_of (report_of w card) p ≡ no_row)

-- slot i, counted from 0, is a day sheet of pump p with the date d, and has n starts in the quarter hour q of the window
pub record CountAt (w : Window) (card : List ℕ) (p i q n : ℕ) (d : Date) : Type 0 where
  pub changed : ℕ
  pub symbols : List ℕ
  pub inside : i < looked card
  pub day : day_of (record_at card i) ≡ sheet changed symbols
  pub pump : at symbols pump_at ≡ p
  pub first : w.first ≤ q
  pub end : q < w.end
  pub count : at symbols q ≡ n
  pub date : date_of symbols ≡ d

-- of the counts of a pump this is the highest, with its earliest date: where there are sheets it is reached on that date, it is exceeded by
-- none, and reached by none on an earlier date
pub record Highest (w : Window) (card : List ℕ) (p sheets : ℕ) (peak : Peak) : Type 0 where
  pub reached : 0 < sheets → (i : ℕ) × ((q : ℕ) × CountAt w card p i q peak.count peak.date)
  pub exceeded : (i q n : ℕ) (d : Date) → CountAt w card p i q n d → n ≤ peak.count
  pub earliest : (i q : ℕ) (d : Date) → CountAt w card p i q peak.count d → earlier d peak.date ≡ false

abbrev pub HighestStands : Type 0
HighestStands =
    (w : Window) (card : List ℕ) (p : ℕ) → is_window w ≡ true → p < pumps
    → Highest w card p (row_of (report_of w card) p).sheets (row_of (report_of w card) p).peak

-- dates are in one order: none is earlier than itself, earlier than an earlier one is earlier, and of two different ones one is earlier
pub record Ordered : Type 0 where
  pub irreflexive : (a : Date) → earlier a a ≡ false
  pub transitive : (a b c : Date) → earlier a b ≡ true → earlier b c ≡ true → earlier a c ≡ true
  pub total : (a b : Date) → earlier a b ≡ false → earlier b a ≡ false → a ≡ b

-- the day after a date, by the calendar; years count from 2000
abbrev pub day_after : Date → Date
day_after d =
    cond (ltb d.day (days_in (epoch + d.year) d.month))
    (record { year = d.year; month = d.month; day = d.day + 1 })
    (cond (ltb d.month 12)
    (record { year = d.year; month = d.month + 1; day = 1 })
    (record { year = d.year + 1; month = 1; day = 1 }))

-- the order is that of the calendar: each date is earlier than the day after it, and by `Ordered` than every later day
abbrev pub DaysInOrder : Type 0
DaysInOrder = (d : Date) → earlier d (day_after d) ≡ true

-- said by its numbers: an earlier year, or the same year and an earlier month, or both the same and an earlier day
abbrev pub EarlierMeans : Type 0
EarlierMeans =
    (a b : Date)
    → (earlier a b ≡ true)
    ↔ ((a.year < b.year) ⊎ ((a.year ≡ b.year) × ((a.month < b.month) ⊎ ((a.month ≡ b.month) × (a.day < b.day)))))

-- a card may come in parts: the report of two, the first of whole slots, is that of the second from where the first has come to
abbrev pub PartsAdded : Type 0
PartsAdded =
    (w : Window) (report a b : List ℕ) (j : ℕ) → length a ≡ j * record_size → part_added w report (a ++ b) ≡ part_added w (part_added w report a) b

-- ---- quarter hours as people write them

-- a quarter hour of the day has two texts, its number and its time, and nothing else stands for it
abbrev pub QuartersRead : Type 0
QuartersRead = (text : List ℕ) (n : ℕ) → (quarter_of text ≡ Some n) ↔ ((n ≤ quarters) × ((text ≡ decimal n) ⊎ (text ≡ clock_text n)))
