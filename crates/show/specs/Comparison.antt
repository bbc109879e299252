-- The text of two day sheets of one pump and date, set side by side. Assumes nothing.
use Rattle.std.specs.Prelude.{cond, List, [], ◌∷◌, ◌++◌, ℕ, eqb, take}
use Rattle.field.specs.Question.{Outcome, accepted, refused}
use Rattle.code.specs.Word.{at}
use Rattle.code.specs.Demands.{occurs}
use Rattle.card.specs.Listing.{bytes_of, newline}
use Rattle.sheet.specs.Sheet.{quarters}
use Rattle.report.specs.Quarter.{clock_text}
use Rattle.report.specs.Window.{starts_sum}
use Rattle.report.specs.Compare.{sheet_signs, symbols_at, compare_of}
use Rattle.show.specs.Text.{labelled, texts, dated_lines}

-- ---- lines

-- the starts of a whole day
abbrev pub day_starts : List ℕ → ℕ
day_starts ss = starts_sum (take quarters ss)

-- the starts of both sheets
unfoldable pub starts_line : List ℕ → List ℕ → List ℕ
starts_line ss ts =
    labelled (bytes_of "starts: controller ") (day_starts ss) ++ (labelled (bytes_of ", cupboard ") (day_starts ts) ++ newline ∷ [])

-- in how many quarter hours the counts are equal, the controller's is higher, the cupboard's is
unfoldable pub totals_line : ℕ → ℕ → ℕ → List ℕ
totals_line equal controller cupboard =
    labelled (bytes_of "quarter hours: equal ") equal
    ++ (labelled (bytes_of ", controller higher ") controller
    ++ (labelled (bytes_of ", cupboard higher ") cupboard ++ newline ∷ []))

-- whose sheet is chosen; a refusal chooses none
abbrev pub chosen_line : Outcome → List ℕ
chosen_line (accepted w) = cond (eqb w 1) (bytes_of "chosen: controller\n") (bytes_of "chosen: cupboard\n")
chosen_line (refused n) = []

-- quarter hour i with its two counts, where they differ
unfoldable pub quarter_line : ℕ → ℕ → ℕ → List ℕ
quarter_line i a b =
    cond (eqb a b) []
    (clock_text i ++ (labelled (bytes_of " controller ") a ++ (labelled (bytes_of ", cupboard ") b ++ newline ∷ [])))

abbrev pub quarter_at : List ℕ → List ℕ → ℕ → List ℕ
quarter_at ss ts i = quarter_line i (at ss i) (at ts i)

-- ---- the whole text

-- the sheets with the symbols ss and ts, their totals, and which was chosen; its symbols, cs, give the date and the pump, which both have
unfoldable pub beside_text : Outcome → ℕ → ℕ → ℕ → List ℕ → List ℕ → List ℕ → List ℕ
beside_text o equal controller cupboard cs ss ts =
    dated_lines cs
    ++ (starts_line ss ts ++ (totals_line equal controller cupboard ++ (chosen_line o ++ texts (quarter_at ss ts) quarters)))

-- how many quarter hours of two sheets have the sign s
abbrev pub sign_total : List ℕ → List ℕ → ℕ → ℕ
sign_total ss ts s = occurs s (sheet_signs ss ts)

-- a refusal has no text
abbrev pub outcome_text : Outcome → List ℕ → List ℕ → List ℕ
outcome_text (accepted w) ss ts =
    beside_text (accepted w) (sign_total ss ts 0) (sign_total ss ts 1) (sign_total ss ts 2) (cond (eqb w 1) ss ts) ss ts
outcome_text (refused n) ss ts = []

-- the slots a of the controller's card and b of the cupboard's, each a card of one record
abbrev pub slots_outcome : List ℕ → List ℕ → Outcome
slots_outcome a b = compare_of a 1 b 1

abbrev pub comparison_text : List ℕ → List ℕ → List ℕ
comparison_text a b = outcome_text (slots_outcome a b) (symbols_at a 1) (symbols_at b 1)
