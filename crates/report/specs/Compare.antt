-- Two day sheets set side by side, the controller's and the meter cupboard's. Assumes nothing.
use Rattle.std.specs.Prelude.{Ok, Err, Result, ◌≡◌, Bool, cond, ◌&&◌, List, [], ◌∷◌, ℕ, ◌-◌, ◌*◌, eqb, leb, ltb, length, take, replicate}
use Rattle.std.specs.Borrow.{Bor}
use Rattle.field.specs.Question.{Verdict, Outcome, accepted, refused, refusal, ask, after}
use Rattle.field.specs.declared.Question.{Question}
use Rattle.field.specs.declared.Question.TheVariants.{Length, RecordNumber, SameDay}
use Rattle.code.specs.Word.{at}
use Rattle.code.specs.Call.{followed}
use Rattle.code.specs.Demands.{occurs}
use Rattle.card.specs.Record.{record_size, on_accept}
use Rattle.card.specs.Card.{LiesAt}
use Rattle.sheet.specs.Sheet.{quarters, year_at, month_at, day_at, pump_at}
use Rattle.report.specs.Day.{has_record, slot_of, Day, sheet, no_sheet, day_of, day_symbols}
use Rattle.report.specs.declared.compare.Side.{Side}
use Rattle.report.specs.declared.compare.Side.TheVariants.{Controller, Cupboard}
use Rattle.report.specs.declared.compare.Comparison.{Comparison}
use Rattle.report.specs.declared.compare.Compared.{Compared}
use Rattle.report.specs.declared.compare.PartTold.{PartTold}

-- the sign of a quarter hour: 0 for equal counts, 1 for the controller's higher, 2 for the cupboard's
abbrev pub sign_of : ℕ → ℕ → ℕ
sign_of a b = cond (ltb b a) 1 (cond (ltb a b) 2 0)

-- the signs of two rows of counts
abbrev pub signs_of : List ℕ → List ℕ → List ℕ
signs_of [] ys = []
signs_of (x ∷ xs) [] = []
signs_of (x ∷ xs) (y ∷ ys) = sign_of x y ∷ signs_of xs ys

-- the signs of the quarter hours of two sheets
abbrev pub sheet_signs : List ℕ → List ℕ → List ℕ
sheet_signs ss ts = signs_of (take quarters ss) (take quarters ts)

-- the sheets have the same pump and date: c_96 to c_99 are equal
abbrev pub same_day : List ℕ → List ℕ → Bool
same_day ss ts =
    eqb (at ss year_at) (at ts year_at)
    && (eqb (at ss month_at) (at ts month_at) && (eqb (at ss day_at) (at ts day_at) && eqb (at ss pump_at) (at ts pump_at)))

-- 1 for the controller's sheet, of which k places were changed, 2 for the cupboard's, of which l were: the one with fewer, on a tie the
-- controller's
abbrev pub chosen_of : ℕ → ℕ → ℕ
chosen_of k l = cond (leb k l) 1 2

-- both are read, the controller's refusal comes first; then the question whether pump and date are the same
abbrev pub compared_of : Day → Day → Outcome
compared_of (no_sheet n) d = refused n
compared_of (sheet k ss) (no_sheet n) = refused n
compared_of (sheet k ss) (sheet l ts) = after (ask (same_day ss ts) SameDay (Ok tt)) (accepted (chosen_of k l))

-- ---- beside an outcome, the signs of two sheets and their totals

-- the signs, 0 each on a refusal
abbrev pub shown_signs : Outcome → List ℕ → List ℕ → List ℕ
shown_signs o ss ts = on_accept o (replicate quarters 0) (sheet_signs ss ts)

-- a number, 0 on a refusal
abbrev pub or_zero : Outcome → ℕ → ℕ
or_zero (accepted w) n = n
or_zero (refused q) n = 0

-- how many quarter hours have the sign s
abbrev pub shown_total : Outcome → List ℕ → List ℕ → ℕ → ℕ
shown_total o ss ts s = or_zero o (occurs s (sheet_signs ss ts))

-- the outcome that a choice stands for
abbrev pub choice : Side → Outcome
choice Controller = accepted 1
choice Cupboard = accepted 2

-- the comparison shows this outcome of the sheets ss and ts: the choice, the signs, and their totals
pub record ShowsSheets (o : Outcome) (ss ts : List ℕ) (x : Comparison) : Type 0 where
  pub answer : choice x.choice ≡ o
  pub signs : x.signs ≡ shown_signs o ss ts
  pub equal : x.equal ≡ shown_total o ss ts 0
  pub controller : x.controller ≡ shown_total o ss ts 1
  pub cupboard : x.cupboard ≡ shown_total o ss ts 2

-- the answer shows this outcome of the sheets ss and ts
abbrev pub Shows : Outcome → List ℕ → List ℕ → Result Comparison Question → Type 0
Shows o ss ts (Ok x) = ShowsSheets o ss ts x
Shows o ss ts (Err q) = refused (refusal q) ≡ o

-- ---- record i of the controller's card c, and record j of the cupboard's card d

-- the symbols of record n of a card, 0 each where it is no day sheet
abbrev pub symbols_at : List ℕ → ℕ → List ℕ
symbols_at card n = day_symbols (day_of (slot_of card n))

-- the numbers are asked before all else
unfoldable pub numbers_asked : List ℕ → ℕ → List ℕ → ℕ → Verdict
numbers_asked c i d j = ask (has_record c i && has_record d j) RecordNumber (Ok tt)

-- which is chosen, or the refusal
unfoldable pub compare_of : List ℕ → ℕ → List ℕ → ℕ → Outcome
compare_of c i d j = after (numbers_asked c i d j) (compared_of (day_of (slot_of c i)) (day_of (slot_of d j)))

-- the signs, and how many quarter hours have the sign s
abbrev pub compare_signs : List ℕ → ℕ → List ℕ → ℕ → List ℕ
compare_signs c i d j = shown_signs (compare_of c i d j) (symbols_at c i) (symbols_at d j)

abbrev pub compare_total : List ℕ → ℕ → List ℕ → ℕ → ℕ → ℕ
compare_total c i d j s = shown_total (compare_of c i d j) (symbols_at c i) (symbols_at d j) s

-- the promise of compare: the outcome, compare_signs, and compare_total of each sign
abbrev pub Compares : List ℕ → ℕ → List ℕ → ℕ → Result Comparison Question → Type 0
Compares c i d j x = Shows (compare_of c i d j) (symbols_at c i) (symbols_at d j) x

-- ---- the part that is handed back

-- of two slots the one that was chosen; nothing on a refusal
abbrev pub part_of : Outcome → List ℕ → List ℕ → List ℕ
part_of (accepted w) a b = cond (eqb w 1) a b
part_of (refused n) a b = []

-- the chosen record's slot, as it stands on its card
abbrev pub compare_part : List ℕ → ℕ → List ℕ → ℕ → List ℕ
compare_part c i d j = part_of (compare_of c i d j) (slot_of c i) (slot_of d j)

-- the part that compare_sheets hands back has the chosen slot's bytes, and lies where the slot lies on its card
pub record HandsBack (x : Bor (List ℕ)) (i : ℕ) (y : Bor (List ℕ)) (j : ℕ) (r : Bor (List ℕ)) : Type 0 where
  pub bytes : r.now ≡ compare_part x.now i y.now j
  pub controller : compare_of x.now i y.now j ≡ accepted 1 → LiesAt x ((i - 1) * record_size) r
  pub cupboard : compare_of x.now i y.now j ≡ accepted 2 → LiesAt y ((j - 1) * record_size) r

-- the promise of compare_sheets: the comparison, and the part
abbrev pub ComparesSheets : Bor (List ℕ) → ℕ → Bor (List ℕ) → ℕ → Result Compared Question → Type 0
ComparesSheets x i y j (Ok r) = Compares x.now i y.now j (Ok r.comparison) × HandsBack x i y j r.part
ComparesSheets x i y j (Err q) = Compares x.now i y.now j (Err q)

-- the choice, and the size of the part that compare_sheets hands back
pub record TellsSize (c : List ℕ) (i : ℕ) (d : List ℕ) (j : ℕ) (x : PartTold) : Type 0 where
  pub answer : choice x.choice ≡ compare_of c i d j
  pub size : x.size ≡ length (compare_part c i d j)

-- the promise of compare_part: these, or the refusal
abbrev pub TellsPart : List ℕ → ℕ → List ℕ → ℕ → Result PartTold Question → Type 0
TellsPart c i d j (Ok x) = TellsSize c i d j x
TellsPart c i d j (Err q) = refused (refusal q) ≡ compare_of c i d j

-- ---- with lent signs, whose length is asked for after the numbers

unfoldable pub into_asked : List ℕ → ℕ → List ℕ → ℕ → ℕ → Verdict
into_asked c i d j m = followed (numbers_asked c i d j) (ask (eqb m quarters) Length (Ok tt))

-- which is chosen, or the refusal
unfoldable pub into_of : List ℕ → ℕ → List ℕ → ℕ → List ℕ → Outcome
into_of c i d j signs = after (into_asked c i d j (length signs)) (compare_of c i d j)

-- the lent signs after the call
abbrev pub into_written : List ℕ → ℕ → List ℕ → ℕ → List ℕ → List ℕ
into_written c i d j signs = on_accept (into_of c i d j signs) signs (sheet_signs (symbols_at c i) (symbols_at d j))

-- the promise of compare_into: the comparison shows the outcome of the sheets, and the signs are written where it is accepted
pub record ComparesInto (c : List ℕ) (i : ℕ) (d : List ℕ) (j : ℕ) (old : List ℕ) (x : Result Comparison Question) (new : List ℕ) : Type 0 where
  pub shows : Shows (into_of c i d j old) (symbols_at c i) (symbols_at d j) x
  pub written : new ≡ into_written c i d j old

-- how many quarter hours have the sign s
abbrev pub into_total : List ℕ → ℕ → List ℕ → ℕ → List ℕ → ℕ → ℕ
into_total c i d j signs s = shown_total (into_of c i d j signs) (symbols_at c i) (symbols_at d j) s
