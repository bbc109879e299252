-- What a line stands for are the symbols of a sheet. Assumes nothing.
use Rattle.field.proofs.Base.{◌≡◌, refl, sym, ap, ◌∙◌, subst, Bool, true, false, cond, ◌&&◌, List, [], ◌∷◌, ◌++◌, ℕ, zero, suc, ◌+◌, ◌-◌, ◌<◌, arith}
use Rattle.field.proofs.Base.{ltb-true, eqb, leb, ltb, length, get_or, length-append}
use lib.Seq.{get_or-append-add}
use Rattle.field.proofs.Ask.{and-true-left, and-true-right}
use Rattle.std.proofs.Common.{Ok, Err, Some, None, Option}
use Rattle.code.specs.Word.{at}
use Rattle.sheet.specs.Calendar.{epoch, date_exists}
use Rattle.sheet.specs.Sheet.{sheet_size, quarters, month_at, day_at}
use Rattle.sheet.specs.Demands.{SheetSymbols}
use Rattle.card_csv.specs.declared.Fault.{Fault}
use Rattle.card_csv.specs.declared.Fault.TheVariants.{Columns, Number, Pump, Count}
use Rattle.card_csv.specs.declared.fields.SheetDate.{SheetDate}
use Rattle.card_csv.specs.Reading.{trimmed, column_count, columns_of, first_column, other_columns, is_decimal, value_of, symbol_in}
use Rattle.card_csv.specs.Reading.{has_hyphens, year_in, two_at, date_from, date_of_parts, date_in, Symbol, Row, counted_row, read_counts, day_counts}
use Rattle.card_csv.specs.Reading.{symbols_read, date_line, day_read, columns_in, read_line}
use Rattle.card_csv.proofs.Digits.{month-most, day-most}
use Rattle.card_csv.proofs.ReadBack.{AllBelow}

-- ---- what a column stands for

pub symbol-below : (f : Fault) (xs : List ℕ) (n : ℕ) → symbol_in f xs ≡ Ok n → n < 128
unfolding symbol_in
symbol-below f xs n e = go (is_decimal 3 xs) (ltb (value_of xs) 128) refl e
  where
    go : (a b : Bool) → ltb (value_of xs) 128 ≡ b → cond a (cond b (Ok (value_of xs)) (Err f)) (Err Number) ≡ Ok n → n < 128
    go true true t g = let same : value_of xs ≡ n = cc in omega (arith, ltb-true (value_of xs) 128 t)
    go true false t g = let z : ◌≡◌ {A = ℕ} 0 1 = cc in absurd (omega arith)
    go false b t g = let z : ◌≡◌ {A = ℕ} 0 1 = cc in absurd (omega arith)

-- the year is a symbol, and the date exists
pub record Dated (d : SheetDate) : Type 0 where
  pub year : d.year < 128
  pub exists : date_exists d.year d.month d.day ≡ true

from-dated : (y mo day : ℕ) (d : SheetDate) → date_from y mo day ≡ Some d → Dated d
unfolding date_from
from-dated y mo day d e = go (leb epoch y && (ltb y 2128 && date_exists (y - epoch) mo day)) refl e
  where
    go : (b : Bool) → (leb epoch y && (ltb y 2128 && date_exists (y - epoch) mo day)) ≡ b
        → cond b (Some (record { year = y - epoch; month = mo; day = day })) None ≡ Some d → Dated d
    go true t g =
        let same : record { year = y - epoch; month = mo; day = day } ≡ d = cc in
        let rest = and-true-right (leb epoch y) (ltb y 2128 && date_exists (y - epoch) mo day) t in
        subst Dated same (record {
          year = omega (arith, ltb-true y 2128 (and-true-left (ltb y 2128) (date_exists (y - epoch) mo day) rest));
          exists = and-true-right (ltb y 2128) (date_exists (y - epoch) mo day) rest;
        })
    go false t g = let z : ◌≡◌ {A = ℕ} 0 1 = cc in absurd (omega arith)

pub date-dated : (xs : List ℕ) (d : SheetDate) → date_in xs ≡ Some d → Dated d
unfolding date_in
date-dated xs d e = go (has_hyphens xs) e
  where
    parts : (y mo dd : Option ℕ) → date_of_parts y mo dd ≡ Some d → Dated d
    parts (Some y) (Some mo) (Some dd) g = from-dated y mo dd d g
    parts (Some y) (Some mo) None g = let z : ◌≡◌ {A = ℕ} 0 1 = cc in absurd (omega arith)
    parts (Some y) None dd g = let z : ◌≡◌ {A = ℕ} 0 1 = cc in absurd (omega arith)
    parts None mo dd g = let z : ◌≡◌ {A = ℕ} 0 1 = cc in absurd (omega arith)

    go : (b : Bool) → cond b (date_of_parts (year_in xs) (two_at xs 5) (two_at xs 8)) None ≡ Some d → Dated d
    go true g = parts (year_in xs) (two_at xs 5) (two_at xs 8) g
    go false g = let z : ◌≡◌ {A = ℕ} 0 1 = cc in absurd (omega arith)

-- n counts, each a symbol
pub record Counts (n : ℕ) (xs : List ℕ) : Type 0 where
  pub size : length xs ≡ n
  pub below : AllBelow xs

counts-are : (n : ℕ) (text xs : List ℕ) → read_counts n text ≡ Ok xs → Counts n xs
unfolding read_counts
counts-are zero text xs e = let same : [] ≡ xs = cc in subst (Counts 0) same (record { size = refl; below = tt })
counts-are (suc n) text xs e = go (symbol_in Count (first_column text)) refl (read_counts n (other_columns text)) (counts-are n (other_columns text)) e
  where
    go : (s : Symbol) → symbol_in Count (first_column text) ≡ s → (r : Row) → ((ys : List ℕ) → r ≡ Ok ys → Counts n ys)
        → counted_row s r ≡ Ok xs → Counts (suc n) xs
    go (Ok x) t (Ok ys) h g =
        let same : x ∷ ys ≡ xs = cc in
        let C = h ys refl in
        subst (Counts (suc n)) same
        (record { size = ap suc C.size; below = (symbol-below Count (first_column text) x t, C.below) })
    go (Ok x) t (Err f) h g = let z : ◌≡◌ {A = ℕ} 0 1 = cc in absurd (omega arith)
    go (Err f) t r h g = let z : ◌≡◌ {A = ℕ} 0 1 = cc in absurd (omega arith)

day-counts-are : (full : Bool) (text xs : List ℕ) → day_counts full text ≡ Ok xs → Counts quarters xs
unfolding day_counts
day-counts-are false text xs e = counts-are quarters text xs e
day-counts-are true text xs e = go (is_decimal 20 (first_column text)) e
  where
    go : (b : Bool) → cond b (read_counts quarters (other_columns text)) (Err Number) ≡ Ok xs → Counts quarters xs
    go true g = counts-are quarters (other_columns text) xs g
    go false g = let z : ◌≡◌ {A = ℕ} 0 1 = cc in absurd (omega arith)

-- ---- symbols of a sheet

below-append : (xs ys : List ℕ) → AllBelow xs → AllBelow ys → AllBelow (xs ++ ys)
below-append [] ys a b = b
below-append (x ∷ xs) ys a b = (a.0, below-append xs ys a.1 b)

below_at : (xs : List ℕ) → AllBelow xs → (i : ℕ) → i < length xs → get_or xs i 0 < 128
below_at [] a zero h = absurd (omega arith)
below_at [] a (suc i) h = absurd (omega arith)
below_at (x ∷ xs) a zero h = a.0
below_at (x ∷ xs) a (suc i) h = below_at xs a.1 i (omega arith)

module _ (xs : List ℕ) (C : Counts quarters xs) (d : SheetDate) (D : Dated d) (p : ℕ) (h : p < 128) where
  day-below : AllBelow (symbols_read d p)
  day-below =
      let month = month-most d.year d.month d.day D.exists in
      let day = day-most d.year d.month d.day D.exists in
      (D.year, (omega (arith, month), (omega (arith, day), (h, tt))))

  long : length (xs ++ symbols_read d p) ≡ sheet_size
  long = simp length-append (omega (arith, C.size))

  at-day : (i : ℕ) → at (xs ++ symbols_read d p) (quarters + i) ≡ at (symbols_read d p) i
  at-day i =
      ap (λ (n : ℕ). at (xs ++ symbols_read d p) (n + i)) (sym C.size) ∙ get_or-append-add xs (symbols_read d p) i 0

  pub line-symbols : SheetSymbols (xs ++ symbols_read d p)
  line-symbols = record {
    size = long;
    symbols = λ i l. below_at (xs ++ symbols_read d p) (below-append xs (symbols_read d p) C.below day-below) i (omega (arith, long));
    date = subst (λ (y : ℕ). date_exists y (at (xs ++ symbols_read d p) month_at) (at (xs ++ symbols_read d p) day_at) ≡ true) (sym (at-day 0))
        (subst (λ (m : ℕ). date_exists d.year m (at (xs ++ symbols_read d p) day_at) ≡ true) (sym (at-day 1))
        (subst (λ (n : ℕ). date_exists d.year d.month n ≡ true) (sym (at-day 2)) D.exists));
  }

-- ---- lines

day-sheet : (full : Bool) (text ss : List ℕ) → day_read full text ≡ Ok ss → SheetSymbols ss
unfolding day_read
day-sheet full text ss e =
    go (date_in (first_column text)) refl (symbol_in Pump (first_column (other_columns text))) refl
    (day_counts full (other_columns (other_columns text))) refl e
  where
    go : (x : Option SheetDate) → date_in (first_column text) ≡ x → (s : Symbol) → symbol_in Pump (first_column (other_columns text)) ≡ s
        → (r : Row) → day_counts full (other_columns (other_columns text)) ≡ r → date_line x s r ≡ Ok ss → SheetSymbols ss
    go (Some d) ex (Ok p) es (Ok xs) er g =
        let same : xs ++ symbols_read d p ≡ ss = cc in
        subst SheetSymbols same
        (line-symbols xs (day-counts-are full (other_columns (other_columns text)) xs er) d (date-dated (first_column text) d ex) p
        (symbol-below Pump (first_column (other_columns text)) p es))
    go (Some d) ex (Ok p) es (Err f) er g = let z : ◌≡◌ {A = ℕ} 0 1 = cc in absurd (omega arith)
    go (Some d) ex (Err f) es r er g = let z : ◌≡◌ {A = ℕ} 0 1 = cc in absurd (omega arith)
    go None ex s es r er g = let z : ◌≡◌ {A = ℕ} 0 1 = cc in absurd (omega arith)

columns-sheet : (full : Bool) (text ss : List ℕ) → columns_in full text ≡ Ok ss → SheetSymbols ss
unfolding columns_in
columns-sheet false text ss e = day-sheet false text ss e
columns-sheet true text ss e = go (is_decimal 20 (first_column text)) e
  where
    go : (b : Bool) → cond b (day_read true (other_columns text)) (Err Number) ≡ Ok ss → SheetSymbols ss
    go true g = day-sheet true (other_columns text) ss g
    go false g = let z : ◌≡◌ {A = ℕ} 0 1 = cc in absurd (omega arith)

pub read-sheet : (full : Bool) (line ss : List ℕ) → read_line full line ≡ Ok ss → SheetSymbols ss
unfolding read_line
read-sheet full line ss e = go (eqb (column_count (trimmed line)) (columns_of full)) e
  where
    go : (b : Bool) → cond b (columns_in full (trimmed line)) (Err Columns) ≡ Ok ss → SheetSymbols ss
    go true g = columns-sheet full (trimmed line) ss g
    go false g = let z : ◌≡◌ {A = ℕ} 0 1 = cc in absurd (omega arith)
