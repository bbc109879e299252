-- A line that is taken: how long it is, if it is a sheet's, and what is made of it. Assumes nothing.
use Rattle.field.proofs.Base.{◌≡◌, refl, Bool, true, false, cond, List, [], ◌∷◌, ℕ, suc, ◌+◌, ◌-◌, ◌*◌, ◌≤◌, arith}
use Rattle.field.proofs.Base.{eqb-true, eqb, length, get_or, take, length-take}
use Rattle.std.proofs.Common.{Ok, Err}
use Rattle.code.specs.Demands.{occurs}
use Rattle.card.specs.Record.{record_size}
use Rattle.card_csv.specs.declared.Fault.TheVariants.{Columns}
use Rattle.card_csv.specs.declared.Header.{Header}
use Rattle.card_csv.specs.declared.Header.TheVariants.{Full, Short, Other}
use Rattle.card_csv.specs.declared.TextState.{TextState}
use Rattle.card_csv.specs.Text.{separator}
use Rattle.card_csv.specs.Reading.{carriage_return, trimmed, column_count, columns_of, columns_in, Line, read_line, header_in}
use Rattle.card_csv.specs.Making.{is_fine, header_read, sheet_read, line_read, line_record, line_made}
use Rattle.card_csv.specs.inner.Taking.{shortest_line}
use Rattle.card_csv.proofs.LineSheets.{read-sheet}
use Rattle.card_csv.proofs.SheetRecords.{record-long}

-- ---- how long the line of a sheet is

separators-most : (xs : List ℕ) → occurs separator xs ≤ length xs
unfolding occurs
separators-most [] = omega arith
separators-most (x ∷ xs) = go (eqb separator x) (separators-most xs)
  where
    go : (b : Bool) → occurs separator xs ≤ length xs → cond b 1 0 + occurs separator xs ≤ suc (length xs)
    go true h = omega arith
    go false h = omega arith

trimmed-short : (line : List ℕ) → length (trimmed line) ≤ length line
unfolding trimmed
trimmed-short line = go (eqb (get_or line (length line - 1) 0) carriage_return)
  where
    go : (b : Bool) → length (cond b (take (length line - 1) line) line) ≤ length line
    go true = simp length-take (omega arith)
    go false = omega arith

columns-least : (full : Bool) → shortest_line + 1 ≤ columns_of full
columns-least true = omega arith
columns-least false = omega arith

pub sheet-long : (full : Bool) (line ss : List ℕ) → read_line full line ≡ Ok ss → shortest_line ≤ length line
unfolding read_line
sheet-long full line ss e = go (eqb (column_count (trimmed line)) (columns_of full)) refl e
  where
    go : (b : Bool) → eqb (column_count (trimmed line)) (columns_of full) ≡ b → cond b (columns_in full (trimmed line)) (Err Columns) ≡ Ok ss
        → shortest_line ≤ length line
    go true t g =
        omega (
          arith,
          eqb-true (column_count (trimmed line)) (columns_of full) t,
          columns-least full,
          separators-most (trimmed line),
          trimmed-short line,
        )
    go false t g = let z : ◌≡◌ {A = ℕ} 0 1 = cc in absurd (omega arith)

-- so many records are made of a line, one or none, and it has bytes for as many
pub record MadeOf (line xs : List ℕ) : Type 0 where
  pub count : ℕ
  pub size : length xs ≡ count * record_size
  pub least : count * (shortest_line + 1) ≤ length line + 1

pub made_of : (s : TextState) (line : List ℕ) → MadeOf line (line_made s line)
unfolding line_made
made_of s line = go (is_fine s.verdict) (eqb s.lines 0) (read_line s.full line) refl
  where
    none : MadeOf line []
    none = record { count = 0; size = omega arith; least = omega arith }

    go : (a b : Bool) (x : Line) → read_line s.full line ≡ x → MadeOf line (cond a (cond b [] (line_record x)) [])
    go false b x e = none
    go true true x e = none
    go true false (Err f) e = none
    go true false (Ok ss) e =
        record {
          count = 1;
          size = omega (arith, record-long ss (read-sheet s.full line ss e));
          least = omega (arith, sheet-long s.full line ss e);
        }

-- ---- one line more

pub line-counted : (s : TextState) (line : List ℕ) → (line_read s line).lines ≤ s.lines + 1
unfolding line_read
line-counted s line = go (is_fine s.verdict) (eqb s.lines 0) (header_in line) (read_line s.full line)
  where
    go : (a b : Bool) (h : Header) (x : Line) → (cond a (cond b (header_read s h) (sheet_read s x)) s).lines ≤ s.lines + 1
    go false b h x = omega arith
    go true true Full x = omega arith
    go true true Short x = omega arith
    go true true Other x = omega arith
    go true false h (Ok ss) = omega arith
    go true false h (Err f) = omega arith
