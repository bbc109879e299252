-- Counts column by column, and a line from its columns. Assumes nothing.
use Rattle.field.proofs.Base.{◌≡◌, refl, sym, ap, ap₂, ◌∙◌, Bool, true, false, cond, List, [], ◌∷◌, ◌++◌, append_assoc, append-nil, ℕ, suc, ◌+◌}
use Rattle.field.proofs.Base.{◌-◌, ◌≤◌, ◌<◌, add-one, arith, eq-eqb, ne_eqb, length, take, drop, set, replicate, take-append-drop}
use lib.Seq.{drop-set-lt, take-suc-set}
use Rattle.std.proofs.Common.{Ok, Err, Some, None, Option}
use Rattle.code.specs.Demands.{occurs}
use Rattle.sheet.specs.Sheet.{quarters, sheet_size}
use Rattle.card_csv.specs.declared.Fault.{Fault}
use Rattle.card_csv.specs.declared.Fault.TheVariants.{Columns, Number, Date, Pump, Count}
use Rattle.card_csv.specs.declared.fields.SheetDate.{SheetDate}
use Rattle.card_csv.specs.Text.{separator}
use Rattle.card_csv.specs.Reading.{trimmed, column_count, columns_of, first_column, other_columns, is_decimal, Symbol, symbol_in, date_in}
use Rattle.card_csv.specs.Reading.{Row, counted_row, read_counts, day_counts, symbols_read, counts_rest, pump_rest, date_line}
use Rattle.card_csv.specs.Reading.{day_read, columns_in, read_line}
use Rattle.card_csv.specs.inner.Numbered.{behind_number}

-- ---- counts, column by column

-- some counts before others
abbrev pub front : List ℕ → Row → Row
front xs (Ok ys) = Ok (xs ++ ys)
front xs (Err f) = Err f

front-none : (r : Row) → r ≡ front [] r
front-none (Ok ys) = refl
front-none (Err f) = refl

front-more : (xs : List ℕ) (n : ℕ) (r : Row) → front xs (counted_row (Ok n) r) ≡ front (xs ++ (n ∷ [])) r
front-more xs n (Ok ys) = ap Ok (sym (append_assoc xs (n ∷ []) ys))
front-more xs n (Err f) = refl

-- the first i counts are read from a text, and rest is what follows
abbrev pub Counted : List ℕ → ℕ → List ℕ → List ℕ → Type 0
Counted text i symbols rest = read_counts quarters text ≡ front (take i symbols) (read_counts (quarters - i) rest)

pub counted_none : (text symbols : List ℕ) → Counted text 0 symbols text
counted_none text symbols = front-none (read_counts quarters text)

module _ (text : List ℕ) (i : ℕ) (symbols rest : List ℕ) (e : Counted text i symbols rest) where
  -- s is the next column
  module _ (h : i < quarters) (s : Symbol) (es : s ≡ symbol_in Count (first_column rest)) where
    turn : read_counts quarters text ≡ front (take i symbols) (counted_row s (read_counts (quarters - (i + 1)) (other_columns rest)))
    unfolding read_counts
    turn =
        let more : quarters - i ≡ suc (quarters - (i + 1)) = omega arith in
        e ∙ ap (λ (n : ℕ). front (take i symbols) (read_counts n rest)) more
        ∙ ap (λ (t : Symbol). front (take i symbols) (counted_row t (read_counts (quarters - (i + 1)) (other_columns rest)))) (sym es)

    pub counted-on : (n : ℕ) → s ≡ Ok n → i < length symbols → (next : List ℕ) → next ≡ other_columns rest
        → Counted text (i + 1) (set symbols i n) next
    counted-on n t l next en =
        let more : take (i + 1) (set symbols i n) ≡ take i symbols ++ (n ∷ []) = rw (add-one i) (take-suc-set symbols i n l) in
        turn
        ∙ ap (λ (u : Symbol). front (take i symbols) (counted_row u (read_counts (quarters - (i + 1)) (other_columns rest)))) t
        ∙ front-more (take i symbols) n (read_counts (quarters - (i + 1)) (other_columns rest))
        ∙ ap₂ (λ (xs ys : List ℕ). front xs (read_counts (quarters - (i + 1)) ys)) (sym more) (sym en)

    pub counted-bad : (f : Fault) → s ≡ Err f → read_counts quarters text ≡ Err f
    counted-bad f t =
        turn ∙ ap (λ (u : Symbol). front (take i symbols) (counted_row u (read_counts (quarters - (i + 1)) (other_columns rest)))) t

  pub counted-end : quarters ≤ i → i ≤ quarters → (d : SheetDate) (p : ℕ) → drop quarters symbols ≡ symbols_read d p
      → Ok symbols ≡ counts_rest d p (read_counts quarters text)
  unfolding read_counts
  counted-end h l d p ed =
      let all : i ≡ quarters = omega arith in
      let none : quarters - i ≡ 0 = omega arith in
      let read : read_counts quarters text ≡ Ok (take quarters symbols) =
      e ∙ ap₂ (λ (m n : ℕ). front (take m symbols) (read_counts n rest)) all none ∙ ap Ok (append-nil (take quarters symbols)) in
      ap Ok (sym (take-append-drop quarters symbols) ∙ ap (λ (xs : List ℕ). take quarters symbols ++ xs) ed)
      ∙ ap (counts_rest d p) (sym read)

-- the symbols in which the counts are put
module _ (d : SheetDate) (p : ℕ) (symbols : List ℕ) where
  pub day-behind : symbols ≡ replicate quarters 0 ++ symbols_read d p → drop quarters symbols ≡ symbols_read d p
  day-behind e = ap (drop quarters) e

  pub day-long : symbols ≡ replicate quarters 0 ++ symbols_read d p → length symbols ≡ sheet_size
  day-long e = ap length e

pub behind-stays : (symbols : List ℕ) (i n : ℕ) → i < quarters → drop quarters (set symbols i n) ≡ drop quarters symbols
behind-stays symbols i n h = drop-set-lt quarters symbols i n h

-- ---- a line from its columns

-- behind the slot
columns-wrong : (full : Bool) (text : List ℕ) (f : Fault) → behind_number full text ≡ Err f → Err f ≡ columns_in full text
unfolding behind_number columns_in
columns-wrong false text f e = let z : ◌≡◌ {A = ℕ} 0 1 = cc in absurd (omega arith)
columns-wrong true text f e = go (is_decimal 20 (first_column text)) e
  where
    go : (b : Bool) → cond b (Ok (other_columns text)) (Err Number) ≡ Err f → Err f ≡ cond b (day_read true (other_columns text)) (Err Number)
    go true t = let z : ◌≡◌ {A = ℕ} 0 1 = cc in absurd (omega arith)
    go false t = cc

columns-behind : (full : Bool) (text day : List ℕ) → behind_number full text ≡ Ok day → day_read full day ≡ columns_in full text
unfolding behind_number columns_in
columns-behind false text day e = let same : day ≡ text = cc in ap (day_read false) same
columns-behind true text day e = go (is_decimal 20 (first_column text)) e
  where
    go : (b : Bool) → cond b (Ok (other_columns text)) (Err Number) ≡ Ok day
        → day_read true day ≡ cond b (day_read true (other_columns text)) (Err Number)
    go true t = let same : day ≡ other_columns text = cc in ap (day_read true) same
    go false t = let z : ◌≡◌ {A = ℕ} 0 1 = cc in absurd (omega arith)

-- n commas are counted, and m are wanted
module _ (full : Bool) (line text : List ℕ) (et : text ≡ trimmed line) (n m : ℕ) (en : n ≡ occurs separator text) (em : m + 1 ≡ columns_of full) where
  pub line-wrong : (n ≡ m → ⊥) → Err Columns ≡ read_line full line
  unfolding read_line
  line-wrong h =
      let other : column_count (trimmed line) ≡ columns_of full → ⊥ = λ x. h (omega (arith, x, en, em, ap (occurs separator) et)) in
      sym (rw (ne_eqb (column_count (trimmed line)) (columns_of full) other))

  module _ (h : n ≡ m) where
    right : columns_in full text ≡ read_line full line
    unfolding read_line
    right =
        let same : column_count (trimmed line) ≡ columns_of full = omega (arith, en, em, ap (occurs separator) et) in
        ap (columns_in full) et ∙ sym (rw (eq-eqb (column_count (trimmed line)) (columns_of full) same))

    pub slot-wrong : (f : Fault) → behind_number full text ≡ Err f → Err f ≡ read_line full line
    slot-wrong f e = columns-wrong full text f e ∙ right

    pub slot-right : (day : List ℕ) → behind_number full text ≡ Ok day → day_read full day ≡ read_line full line
    slot-right day e = columns-behind full text day e ∙ right

-- behind the number of changed places
pub changed-wrong : (full : Bool) (text : List ℕ) (f : Fault) → behind_number full text ≡ Err f → Err f ≡ day_counts full text
unfolding behind_number day_counts
changed-wrong false text f e = let z : ◌≡◌ {A = ℕ} 0 1 = cc in absurd (omega arith)
changed-wrong true text f e = go (is_decimal 20 (first_column text)) e
  where
    go : (b : Bool) → cond b (Ok (other_columns text)) (Err Number) ≡ Err f
        → Err f ≡ cond b (read_counts quarters (other_columns text)) (Err Number)
    go true t = let z : ◌≡◌ {A = ℕ} 0 1 = cc in absurd (omega arith)
    go false t = cc

pub changed-behind : (full : Bool) (text counts : List ℕ) → behind_number full text ≡ Ok counts → read_counts quarters counts ≡ day_counts full text
unfolding behind_number day_counts
changed-behind false text counts e = let same : counts ≡ text = cc in ap (read_counts quarters) same
changed-behind true text counts e = go (is_decimal 20 (first_column text)) e
  where
    go : (b : Bool) → cond b (Ok (other_columns text)) (Err Number) ≡ Ok counts
        → read_counts quarters counts ≡ cond b (read_counts quarters (other_columns text)) (Err Number)
    go true t = let same : counts ≡ other_columns text = cc in ap (read_counts quarters) same
    go false t = let z : ◌≡◌ {A = ℕ} 0 1 = cc in absurd (omega arith)

-- a day: its first column, and those behind
module _ (full : Bool) (day first rest : List ℕ) (ef : first ≡ first_column day) (er : rest ≡ other_columns day) where
  day-as : (x : Option SheetDate) → x ≡ date_in first
      → date_line x (symbol_in Pump (first_column rest)) (day_counts full (other_columns rest)) ≡ day_read full day
  unfolding day_read
  day-as x ex =
      ap₂ (λ (u : Option SheetDate) (xs : List ℕ). date_line u (symbol_in Pump (first_column xs)) (day_counts full (other_columns xs)))
      (ex ∙ ap date_in ef) er

  pub date-wrong : None ≡ date_in first → Err Date ≡ day_read full day
  date-wrong t = day-as None t

  -- behind the date
  module _ (d : SheetDate) (t : Some d ≡ date_in first) (pump counts : List ℕ) (ep : pump ≡ first_column rest) (ec : counts ≡ other_columns rest) where
    pump-as : (s : Symbol) → s ≡ symbol_in Pump pump → pump_rest d s (day_counts full counts) ≡ day_read full day
    pump-as s es =
        ap₂ (λ (u : Symbol) (xs : List ℕ). pump_rest d u (day_counts full xs)) (es ∙ ap (symbol_in Pump) ep) ec ∙ day-as (Some d) t

    pub pump-wrong : (f : Fault) → Err f ≡ symbol_in Pump pump → Err f ≡ day_read full day
    pump-wrong f u = pump-as (Err f) u

    pub pump-right : (p : ℕ) → Ok p ≡ symbol_in Pump pump → counts_rest d p (day_counts full counts) ≡ day_read full day
    pump-right p u = pump-as (Ok p) u
