-- Cards of clean sheets and their texts: each is made of the other. Assumes nothing.
use Rattle.field.proofs.Base.{◌≡◌, refl, sym, ap, ap₂, ◌∙◌, Bool, true, cond, List, [], ◌∷◌, ◌++◌, append_assoc, append-nil, ℕ, ◌+◌, arith, ne_eqb}
use Rattle.std.proofs.Common.{Ok}
use Rattle.code.specs.Demands.{occurs}
use Rattle.card.specs.Slots.{over_first}
use Rattle.card.specs.Listing.{digits_from, newline}
use Rattle.card.proofs.Folding.{over-one}
use Rattle.sheet.specs.Demands.{SheetSymbols}
use Rattle.report.specs.Day.{day_of}
use Rattle.report.specs.Table.{two_digits}
use Rattle.code.specs.Call.{same_bytes}
use Rattle.report.specs.Quarter.{clock_text}
use Rattle.card_csv.specs.declared.Counts.{Counts}
use Rattle.card_csv.specs.declared.Header.{Header}
use Rattle.card_csv.specs.declared.Header.TheVariants.{Full}
use Rattle.card_csv.specs.Text.{time_columns, header_with, sheets_header, sheet_columns, sheet_line, day_line, one_sheet, blank_tally, day_counted}
use Rattle.card_csv.specs.Text.{slot_tallied, SheetsTold, slot_sheet_told, sheets_untold, part_sheets, part_counts, untallied, sheets_text}
use Rattle.card_csv.specs.Reading.{trimmed, header_in}
use Rattle.card_csv.specs.Record.{sheet_record}
use Rattle.card_csv.specs.declared.TextState.{TextState}
use Rattle.card_csv.specs.Making.{lines_from, text_begun, header_read, line_read, line_made, lines_made, card_of}
use Rattle.card_csv.specs.RoundTrip.{AllSheets, sheets_card, sheets_lines, canonical_text}
use Rattle.card_csv.proofs.SheetLines.{lines-in-parts}
use Rattle.card_csv.proofs.SheetRecords.{record-long, record-written, record-day}
use Rattle.card_csv.proofs.Printed.{Lacks, lacks-first, lacks_rest}
use Rattle.card_csv.proofs.ReadBack.{columns-lack-below, full_back}

-- ---- a card of clean sheets is printed

module _ (ss : List ℕ) (S : SheetSymbols ss) (s : Counts) where
  one_line : part_sheets s (sheet_record ss) ≡ sheet_line s.next 0 ss
  one_line =
      let size = record-long ss S in
      ap (λ (t : SheetsTold). t.text) (over-one slot_sheet_told (sheets_untold s) (sheet_record ss) (omega (arith, size)) (omega (arith, size)))
      ∙ ap (λ (b : Bool). cond b [] (day_line s.next (day_of (sheet_record ss)))) (record-written ss S)
      ∙ ap (day_line s.next) (record-day ss S)

  one-counted : part_counts s (sheet_record ss) ≡ one_sheet s
  one-counted =
      let size = record-long ss S in
      over-one slot_tallied s (sheet_record ss) (omega (arith, size)) (omega (arith, size))
      ∙ ap (λ (b : Bool). cond b (blank_tally s) (day_counted s (day_of (sheet_record ss)))) (record-written ss S)
      ∙ ap (day_counted s) (record-day ss S)

lines-printed : (sheets : List (List ℕ)) → AllSheets sheets → (s : Counts) → part_sheets s (sheets_card sheets) ≡ sheets_lines s.next sheets
unfolding over_first
lines-printed [] A s = refl
lines-printed (ss ∷ sheets) A s =
    lines-in-parts (sheet_record ss) (sheets_card sheets) 1 (omega (arith, record-long ss A.0)) s
    ∙ ap₂ ◌++◌ (one_line ss A.0 s)
    (ap (λ (u : Counts). part_sheets u (sheets_card sheets)) (one-counted ss A.0 s) ∙ lines-printed sheets A.1 (one_sheet s))

pub canonical-printed : (sheets : List (List ℕ)) → AllSheets sheets → sheets_text (sheets_card sheets) ≡ canonical_text sheets
canonical-printed sheets A = ap (λ (xs : List ℕ). sheets_header ++ xs) (lines-printed sheets A untallied)

-- ---- a text cut into lines

line-cut : (xs : List ℕ) → Lacks newline xs → (line rest : List ℕ) → lines_from line (xs ++ (newline ∷ rest)) ≡ (line ++ xs) ∷ lines_from [] rest
unfolding lines_from
line-cut [] l line rest = ap (λ (xs : List ℕ). xs ∷ lines_from [] rest) (sym (append-nil line))
line-cut (x ∷ xs) l line rest =
    ap (λ (b : Bool). cond b (line ∷ lines_from [] (xs ++ (newline ∷ rest))) (lines_from (line ++ (x ∷ [])) (xs ++ (newline ∷ rest))))
    (ne_eqb x newline (λ e. lacks-first newline x xs l (sym e)))
    ∙ line-cut xs (lacks_rest newline x xs l) (line ++ (x ∷ [])) rest
    ∙ ap (λ (ys : List ℕ). ys ∷ lines_from [] rest) (append_assoc line (x ∷ []) xs)

-- a line with its end, and what follows
whole-line : (xs : List ℕ) → Lacks newline xs → (rest : List ℕ) → lines_from [] ((xs ++ (newline ∷ [])) ++ rest) ≡ xs ∷ lines_from [] rest
whole-line xs l rest = ap (lines_from []) (append_assoc xs (newline ∷ []) rest) ∙ line-cut xs l [] rest

-- ---- the header

header-lacks : Lacks newline (header_with true)
unfolding occurs header_with time_columns clock_text two_digits digits_from
header-lacks = refl

header-full : header_in (header_with true) ≡ Full
unfolding header_in trimmed same_bytes header_with time_columns clock_text two_digits digits_from
header-full = refl

-- ---- a canonical text is read

-- below a header with all columns, n lines were taken
abbrev below : ℕ → TextState
below n = record { full = true; lines = n + 1; verdict = Ok tt }

records-read : (m n : ℕ) (sheets : List (List ℕ)) → AllSheets sheets
    → lines_made (below m) (lines_from [] (sheets_lines n sheets)) ≡ sheets_card sheets
unfolding lines_from lines_made line_made line_read
records-read m n [] A = refl
records-read m n (ss ∷ sheets) A =
    ap (lines_made (below m))
    (whole-line (sheet_columns n 0 ss) (columns-lack-below ss A.0 n 0 newline (omega arith)) (sheets_lines (n + 1) sheets))
    ∙ rw (ne_eqb (m + 1) 0 (λ e. omega (arith, e)), full_back ss A.0 n 0) (ap (λ (ys : List ℕ). sheet_record ss ++ ys) (records-read (m + 1) (n + 1) sheets A.1))

pub canonical-read : (sheets : List (List ℕ)) → AllSheets sheets → card_of (canonical_text sheets) ≡ sheets_card sheets
unfolding lines_made line_made line_read
canonical-read sheets A =
    ap (lines_made text_begun) (whole-line (header_with true) header-lacks (sheets_lines 1 sheets))
    ∙ ap (λ (h : Header). lines_made (header_read text_begun h) (lines_from [] (sheets_lines 1 sheets))) header-full
    ∙ records-read 0 1 sheets A
