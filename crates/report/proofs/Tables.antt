-- The lines of a table: how they come about, and how long they are. Assumes nothing.
use Rattle.field.proofs.Base.{◌≡◌, refl, Bool, true, false, cond, List, [], ◌∷◌, ℕ, zero, suc, ◌+◌, ◌*◌, ◌≤◌, ◌<◌}
use Rattle.field.proofs.Base.{arith, lt-ltb, le-ltb, ltb-true, eqb, ltb, length, length-append}
use Rattle.card.specs.Listing.{decimal}
use Rattle.card.proofs.Writing.{length-decimal, length_one}
use Rattle.report.specs.Window.{row_of}
use Rattle.report.specs.Table.{two_digits, date_text, count_fields, row_line, pump_line, pump_lines}
use Rattle.report.specs.inner.Room.{longest_number, longest_row}
use Rattle.report.specs.declared.row.Row.{Row}

-- ---- numbers and dates

module _ (n : ℕ) where
  pub two-one : n < 10 → two_digits n ≡ 48 ∷ decimal n
  unfolding two_digits
  two-one h = rw (lt-ltb n 10 h)

  pub two-more : 10 ≤ n → two_digits n ≡ decimal n
  unfolding two_digits
  two-more h = rw (le-ltb n 10 h)

pub two-short : (n : ℕ) → length (two_digits n) ≤ longest_number
unfolding two_digits
two-short n = go (ltb n 10) refl
  where
    go : (b : Bool) → ltb n 10 ≡ b → length (cond b (48 ∷ decimal n) (decimal n)) ≤ longest_number
    go true h = omega (arith, length_one n (ltb-true n 10 h))
    go false h = length-decimal n

-- ---- the lines of the pumps

pub row-short : (p : ℕ) (r : Row) → length (row_line p r) ≤ longest_row
unfolding row_line count_fields date_text
row-short p r =
    simp length-append (omega (
      arith,
      length-decimal p,
      length-decimal r.sheets,
      length-decimal r.sum,
      length-decimal r.full,
      length-decimal r.peak.count,
      length-decimal (r.peak.date.year + 2000),
      two-short r.peak.date.month,
      two-short r.peak.date.day,
      length-decimal r.quotient,
      length-decimal r.remainder,
    ))

pub pumps_short : (report : List ℕ) (p : ℕ) → length (pump_lines report p) ≤ p * longest_row
unfolding pump_lines
pumps_short report zero = omega arith
pumps_short report (suc p) =
    omega (arith, length-append (pump_lines report p) (pump_line report p), pumps_short report p, short (eqb (row_of report p).sheets 0))
  where
    short : (b : Bool) → length (cond b [] (row_line p (row_of report p))) ≤ longest_row
    short true = omega arith
    short false = row-short p (row_of report p)
