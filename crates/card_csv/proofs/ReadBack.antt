-- A line that is printed is read back, and what a line stands for are the symbols of a sheet. Assumes nothing.
use Rattle.field.proofs.Base.{◌≡◌, refl, sym, ap, ap₂, ◌∙◌, subst, Bool, true, false, cond, List, [], ◌∷◌, ◌++◌, append-nil, ℕ, zero, suc, ◌+◌, ◌-◌}
use Rattle.field.proofs.Base.{◌<◌, arith, eq-eqb, ne_eqb, eqb, length, get_or, take, drop, take-append-drop, length-take, drop_of_length-le, get_or-take}
use Rattle.field.proofs.Base.{drop-cons}
use Rattle.std.proofs.Common.{Ok, Err, Some, Option}
use Rattle.code.specs.Word.{at}
use Rattle.code.specs.Demands.{occurs}
use Rattle.card.specs.Listing.{decimal}
use Rattle.sheet.specs.Sheet.{quarters, year_at, month_at, day_at, pump_at}
use Rattle.sheet.specs.Demands.{SheetSymbols}
use Rattle.report.specs.Window.{date_of}
use Rattle.report.specs.Table.{date_text}
use Rattle.card_csv.specs.declared.Fault.TheVariants.{Columns, Number, Pump, Count}
use Rattle.card_csv.specs.declared.fields.SheetDate.{SheetDate}
use Rattle.card_csv.specs.Text.{separator, count_columns, sheet_columns}
use Rattle.card_csv.specs.Reading.{carriage_return, trimmed, column_count, columns_of, first_column, other_columns, is_decimal, symbol_in, date_in}
use Rattle.card_csv.specs.Reading.{Symbol, Row, counted_row, read_counts, day_counts, symbols_read, date_line, day_read, columns_in, read_line}
use Rattle.card_csv.specs.RoundTrip.{short_columns}
use Rattle.card_csv.proofs.Cutting.{trimmed-none, trimmed-plain}
use Rattle.card_csv.proofs.Printed.{Lacks, occurs-append, lacks-append, lacks-cons, lacks-first, lacks_rest, lacks-decimal, lacks-date}
use Rattle.card_csv.proofs.Printed.{decimal-number, symbol-back, date-back}

-- ---- columns of a text

-- a column without a separator, before others
module _ (ys : List ℕ) where
  pub first_of : (xs : List ℕ) → Lacks separator xs → first_column (xs ++ (separator ∷ ys)) ≡ xs
  unfolding first_column
  first_of [] l = refl
  first_of (x ∷ xs) l =
      ap (λ (b : Bool). cond b [] (x ∷ first_column (xs ++ (separator ∷ ys)))) (ne_eqb x separator (λ e. lacks-first separator x xs l (sym e)))
      ∙ ap (λ (zs : List ℕ). x ∷ zs) (first_of xs (lacks_rest separator x xs l))

  pub others-of : (xs : List ℕ) → Lacks separator xs → other_columns (xs ++ (separator ∷ ys)) ≡ ys
  unfolding other_columns
  others-of [] l = refl
  others-of (x ∷ xs) l =
      ap (λ (b : Bool). cond b (xs ++ (separator ∷ ys)) (other_columns (xs ++ (separator ∷ ys)))) (ne_eqb x separator (λ e. lacks-first separator x xs l (sym e)))
      ∙ others-of xs (lacks_rest separator x xs l)

-- the last column
first-last : (xs : List ℕ) → Lacks separator xs → first_column xs ≡ xs
unfolding first_column
first-last [] l = refl
first-last (x ∷ xs) l =
    ap (λ (b : Bool). cond b [] (x ∷ first_column xs)) (ne_eqb x separator (λ e. lacks-first separator x xs l (sym e)))
    ∙ ap (λ (zs : List ℕ). x ∷ zs) (first-last xs (lacks_rest separator x xs l))

-- a text without a carriage return stays as it is
lacks-at : (c : ℕ) (xs : List ℕ) → Lacks c xs → (i : ℕ) → i < length xs → get_or xs i 0 ≡ c → ⊥
lacks-at c [] l zero h e = omega arith
lacks-at c [] l (suc i) h e = omega arith
lacks-at c (x ∷ xs) l zero h e = lacks-first c x xs l (sym e)
lacks-at c (x ∷ xs) l (suc i) h e = lacks-at c xs (lacks_rest c x xs l) i (omega arith) e

pub trimmed-same : (xs : List ℕ) → Lacks carriage_return xs → trimmed xs ≡ xs
trimmed-same [] l = sym (trimmed-none [] refl)
trimmed-same (x ∷ xs) l = sym (trimmed-plain (x ∷ xs) (lacks-at carriage_return (x ∷ xs) l (suc (length xs) - 1) (omega arith)))

-- ---- the counts

-- each is a symbol
abbrev pub AllBelow : List ℕ → Type 0
AllBelow [] = Unit
AllBelow (x ∷ xs) = (x < 128) × AllBelow xs

counts-back : (x : ℕ) (xs : List ℕ) → x < 128 → AllBelow xs → read_counts (suc (length xs)) (decimal x ++ count_columns xs) ≡ Ok (x ∷ xs)
unfolding read_counts count_columns
counts-back x [] h b =
    let l = lacks-decimal separator (omega arith) x in
    let alone : first_column (decimal x ++ []) ≡ decimal x = ap first_column (append-nil (decimal x)) ∙ first-last (decimal x) l in
    ap (λ (s : Symbol). counted_row s (Ok [])) (ap (symbol_in Count) alone ∙ symbol-back Count x h)
counts-back x (y ∷ ys) h b =
    let l = lacks-decimal separator (omega arith) x in
    let rest = decimal y ++ count_columns ys in
    ap₂ (λ (s : Symbol) (zs : List ℕ). counted_row s (read_counts (suc (length ys)) zs))
    (ap (symbol_in Count) (first_of rest (decimal x) l) ∙ symbol-back Count x h) (others-of rest (decimal x) l)
    ∙ ap (counted_row (Ok x)) (counts-back y ys b.0 b.1)

-- behind a number, which they follow with a separator
pub counts_behind : (n : ℕ) (xs : List ℕ) → 0 < length xs → AllBelow xs
    → read_counts (length xs) (other_columns (decimal n ++ count_columns xs)) ≡ Ok xs
unfolding count_columns
counts_behind n [] h b = absurd (omega arith)
counts_behind n (x ∷ xs) h b =
    ap (read_counts (suc (length xs))) (others-of (decimal x ++ count_columns xs) (decimal n) (lacks-decimal separator (omega arith) n))
    ∙ counts-back x xs b.0 b.1

-- the number that they follow is a column of its own
pub first-behind : (n : ℕ) (xs : List ℕ) → 0 < length xs → first_column (decimal n ++ count_columns xs) ≡ decimal n
unfolding count_columns
first-behind n [] h = absurd (omega arith)
first-behind n (x ∷ xs) h = first_of (decimal x ++ count_columns xs) (decimal n) (lacks-decimal separator (omega arith) n)

columns-lack : (c : ℕ) → c < 44 → (xs : List ℕ) → Lacks c (count_columns xs)
unfolding count_columns occurs
columns-lack c h [] = refl
columns-lack c h (x ∷ xs) =
    lacks-cons c separator (decimal x ++ count_columns xs) (λ e. omega arith)
    (lacks-append c (decimal x) (count_columns xs) (lacks-decimal c (omega arith) x) (columns-lack c h xs))

columns-commas : (xs : List ℕ) → occurs separator (count_columns xs) ≡ length xs
unfolding count_columns occurs
columns-commas [] = refl
columns-commas (x ∷ xs) =
    omega (arith, occurs-append separator (decimal x) (count_columns xs), lacks-decimal separator (omega arith) x, columns-commas xs)

-- ---- the symbols of a sheet

module _ (ss : List ℕ) (S : SheetSymbols ss) where
  -- the date
  abbrev date_is : SheetDate
  date_is = record { year = at ss year_at; month = at ss month_at; day = at ss day_at }

  day-behind : drop quarters ss ≡ symbols_read date_is (at ss pump_at)
  day-behind =
      let size = S.size in
      drop-cons ss 96 0 (omega arith)
      ∙ ap (λ (l : List ℕ). at ss 96 ∷ l) (drop-cons ss 97 0 (omega arith))
      ∙ ap (λ (l : List ℕ). at ss 96 ∷ at ss 97 ∷ l) (drop-cons ss 98 0 (omega arith))
      ∙ ap (λ (l : List ℕ). at ss 96 ∷ at ss 97 ∷ at ss 98 ∷ l) (drop-cons ss 99 0 (omega arith))
      ∙ ap (λ (l : List ℕ). at ss 96 ∷ at ss 97 ∷ at ss 98 ∷ at ss 99 ∷ l) (drop_of_length-le ss {i = 100} (omega arith))

  pub counts-long : length (take quarters ss) ≡ quarters
  counts-long = simp length-take (omega (arith, S.size))

  below_all : (xs : List ℕ) → ((i : ℕ) → i < length xs → get_or xs i 0 < 128) → AllBelow xs
  below_all [] h = tt
  below_all (x ∷ xs) h = (h 0 (omega arith), below_all xs (λ i l. h (suc i) (omega arith)))

  pub counts-below : AllBelow (take quarters ss)
  counts-below =
      below_all (take quarters ss)
      (λ i l.
      let inside : i < quarters = omega (arith, counts-long) in
      subst (λ (x : ℕ). x < 128) (sym (get_or-take quarters ss i 0 inside)) (S.symbols i (omega arith)))

  -- date, pump and what follows
  module _ (full : Bool) (rest : List ℕ) (e : day_counts full rest ≡ Ok (take quarters ss)) where
    pub day-back : day_read full (date_text (date_of ss) ++ (separator ∷ decimal (at ss pump_at) ++ (separator ∷ rest))) ≡ Ok ss
    unfolding day_read date_text
    day-back =
        let date = lacks-date separator (omega arith) ss in
        let pump = lacks-decimal separator (omega arith) (at ss pump_at) in
        let behind = decimal (at ss pump_at) ++ (separator ∷ rest) in
        let others : other_columns (date_text (date_of ss) ++ (separator ∷ behind)) ≡ behind = others-of behind (date_text (date_of ss)) date in
        let first : date_in (first_column (date_text (date_of ss) ++ (separator ∷ behind))) ≡ Some date_is =
        ap date_in (first_of behind (date_text (date_of ss)) date)
        ∙ date-back (at ss year_at) (at ss month_at) (at ss day_at) (S.symbols year_at (omega arith)) S.date in
        let second : symbol_in Pump (first_column (other_columns (date_text (date_of ss) ++ (separator ∷ behind)))) ≡ Ok (at ss pump_at) =
        ap (λ (xs : List ℕ). symbol_in Pump (first_column xs)) others ∙ ap (symbol_in Pump) (first_of rest (decimal (at ss pump_at)) pump)
        ∙ symbol-back Pump (at ss pump_at) (S.symbols pump_at (omega arith)) in
        let third : day_counts full (other_columns (other_columns (date_text (date_of ss) ++ (separator ∷ behind)))) ≡ Ok (take quarters ss) =
        ap (λ (xs : List ℕ). day_counts full (other_columns xs)) others ∙ ap (day_counts full) (others-of rest (decimal (at ss pump_at)) pump) ∙ e in
        ap₂ (λ (x : Option SheetDate) (r : Row). date_line x (symbol_in Pump (first_column (other_columns (date_text (date_of ss) ++ (separator ∷ behind))))) r)
        first third
        ∙ ap (λ (s : Symbol). date_line (Some date_is) s (Ok (take quarters ss))) second
        ∙ ap (λ (xs : List ℕ). Ok (take quarters ss ++ xs)) (sym day-behind)
        ∙ ap Ok (take-append-drop quarters ss)

-- ---- whole lines

-- a line without a carriage return and with the right number of columns
line-back : (full : Bool) (line ss : List ℕ) → Lacks carriage_return line → column_count line ≡ columns_of full → columns_in full line ≡ Ok ss
    → read_line full line ≡ Ok ss
unfolding read_line
line-back full line ss l n e =
    ap (λ (xs : List ℕ). cond (eqb (column_count xs) (columns_of full)) (columns_in full xs) (Err Columns)) (trimmed-same line l)
    ∙ ap (λ (b : Bool). cond b (columns_in full line) (Err Columns)) (eq-eqb (column_count line) (columns_of full) n)
    ∙ e

module _ (ss : List ℕ) (S : SheetSymbols ss) where
  some : 0 < length (take quarters ss)
  some = omega (arith, counts-long ss S)

  -- the columns from the date on, behind them those from the counts on
  day_part : List ℕ → List ℕ
  day_part rest = date_text (date_of ss) ++ (separator ∷ decimal (at ss pump_at) ++ rest)

  part-lacks : (c : ℕ) → c < 44 → (rest : List ℕ) → Lacks c rest → Lacks c (day_part rest)
  unfolding day_part
  part-lacks c h rest l =
      lacks-append c (date_text (date_of ss)) (separator ∷ decimal (at ss pump_at) ++ rest) (lacks-date c (omega arith) ss)
      (lacks-cons c separator (decimal (at ss pump_at) ++ rest) (λ e. omega arith)
      (lacks-append c (decimal (at ss pump_at)) rest (lacks-decimal c (omega arith) (at ss pump_at)) l))

  part-commas : (rest : List ℕ) → occurs separator (day_part rest) ≡ 1 + occurs separator rest
  unfolding day_part occurs
  part-commas rest =
      omega (
        arith,
        occurs-append separator (date_text (date_of ss)) (separator ∷ decimal (at ss pump_at) ++ rest),
        lacks-date separator (omega arith) ss,
        occurs-append separator (decimal (at ss pump_at)) rest,
        lacks-decimal separator (omega arith) (at ss pump_at),
      )

  module _ (n k : ℕ) where
    -- changed places and counts
    counts-part : List ℕ
    counts-part = separator ∷ decimal k ++ count_columns (take quarters ss)

    part-back : day_read true (day_part counts-part) ≡ Ok ss
    unfolding day_part counts-part day_counts
    part-back =
        day-back ss S true (decimal k ++ count_columns (take quarters ss))
        (ap (λ (c : List ℕ). cond (is_decimal 20 c) (read_counts quarters (other_columns (decimal k ++ count_columns (take quarters ss)))) (Err Number))
        (first-behind k (take quarters ss) some)
        ∙ ap (λ (b : Bool). cond b (read_counts quarters (other_columns (decimal k ++ count_columns (take quarters ss)))) (Err Number)) (decimal-number k)
        ∙ ap (λ (m : ℕ). read_counts m (other_columns (decimal k ++ count_columns (take quarters ss)))) (sym (counts-long ss S))
        ∙ counts_behind k (take quarters ss) some (counts-below ss S))

    counts-lack : (c : ℕ) → c < 44 → Lacks c counts-part
    unfolding counts-part
    counts-lack c h =
        lacks-cons c separator (decimal k ++ count_columns (take quarters ss)) (λ e. omega arith)
        (lacks-append c (decimal k) (count_columns (take quarters ss)) (lacks-decimal c (omega arith) k) (columns-lack c h (take quarters ss)))

    counts-commas : occurs separator counts-part ≡ 1 + quarters
    unfolding counts-part occurs
    counts-commas =
        omega (
          arith,
          occurs-append separator (decimal k) (count_columns (take quarters ss)),
          lacks-decimal separator (omega arith) k,
          columns-commas (take quarters ss),
          counts-long ss S,
        )

    line-is : sheet_columns n k ss ≡ decimal n ++ (separator ∷ day_part counts-part)
    unfolding sheet_columns day_part counts-part
    line-is = refl

    line-columns : columns_in true (decimal n ++ (separator ∷ day_part counts-part)) ≡ Ok ss
    unfolding columns_in
    line-columns =
        let l = lacks-decimal separator (omega arith) n in
        let rest = day_part counts-part in
        ap (λ (xs : List ℕ). cond (is_decimal 20 xs) (day_read true (other_columns (decimal n ++ (separator ∷ rest)))) (Err Number))
        (first_of rest (decimal n) l)
        ∙ ap (λ (b : Bool). cond b (day_read true (other_columns (decimal n ++ (separator ∷ rest)))) (Err Number)) (decimal-number n)
        ∙ ap (day_read true) (others-of rest (decimal n) l) ∙ part-back

    pub columns-lack-below : (c : ℕ) → c < 44 → Lacks c (sheet_columns n k ss)
    columns-lack-below c h =
        ap (occurs c) line-is
        ∙ lacks-append c (decimal n) (separator ∷ day_part counts-part) (lacks-decimal c (omega arith) n)
        (lacks-cons c separator (day_part counts-part) (λ e. omega arith) (part-lacks c h counts-part (counts-lack c h)))

    pub full_back : read_line true (sheet_columns n k ss) ≡ Ok ss
    unfolding occurs
    full_back =
        line-back true (sheet_columns n k ss) ss (columns-lack-below carriage_return (omega arith))
        (omega (
          arith,
          ap (occurs separator) line-is,
          occurs-append separator (decimal n) (separator ∷ day_part counts-part),
          lacks-decimal separator (omega arith) n,
          part-commas counts-part,
          counts-commas,
        ))
        (ap (columns_in true) line-is ∙ line-columns)

  -- without slot and changed places
  short-part : (xs : List ℕ) → 0 < length xs → xs ≡ take quarters ss → day_read false (day_part (count_columns xs)) ≡ Ok ss
  unfolding day_part count_columns day_counts
  short-part [] h e = absurd (omega arith)
  short-part (x ∷ xs) h e =
      let below : AllBelow (x ∷ xs) = subst AllBelow (sym e) (counts-below ss S) in
      let long : suc (length xs) ≡ quarters = ap length e ∙ counts-long ss S in
      day-back ss S false (decimal x ++ count_columns xs)
      (ap (λ (m : ℕ). read_counts m (decimal x ++ count_columns xs)) (sym long) ∙ counts-back x xs below.0 below.1 ∙ ap Ok e)

  short-is : short_columns ss ≡ day_part (count_columns (take quarters ss))
  unfolding short_columns day_part
  short-is = refl

  pub short_back : read_line false (short_columns ss) ≡ Ok ss
  unfolding columns_in
  short_back =
      let counts = count_columns (take quarters ss) in
      line-back false (short_columns ss) ss
      (ap (occurs carriage_return) short-is
      ∙ part-lacks carriage_return (omega arith) counts (columns-lack carriage_return (omega arith) (take quarters ss)))
      (omega (arith, ap (occurs separator) short-is, part-commas counts, columns-commas (take quarters ss), counts-long ss S))
      (ap (day_read false) short-is ∙ short-part (take quarters ss) some refl)
