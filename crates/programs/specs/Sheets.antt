-- What `cardsheets` promises. Assumes nothing.
use Rattle.std.specs.Prelude.{◌≡◌, true, cond, List, ◌⊎◌, ℕ, ◌≤◌, eqb, length}
use Rattle.card_csv.specs.declared.Counts.{Counts}
use Rattle.card_csv.specs.Text.{part_sheets, part_counts, untallied, sheets_text}
use Rattle.card_csv.specs.Batch.{sheet_batch, longest_sheets}
use Rattle.programs.specs.declared.turn.Turn.{Turn}
use Rattle.programs.specs.declared.status.Status.{Status}
use Rattle.programs.specs.declared.status.Status.TheVariants.{Done, AnsweredNo, NotDone}
use Rattle.programs.specs.Stream.{Wrote}
use Rattle.programs.specs.Batches.{Took, is_whole}

-- a text is the lines of the day sheets in some slots
pub record SheetLines (text : List ℕ) : Type 0 where
  pub from : Counts
  pub slots : List ℕ
  pub lines : text ≡ part_sheets from slots

-- the sheets of a batch were printed: its slots are counted, and its lines, not too long, are written
pub record TellsBatch (t u : Turn Counts) : Type 0 where
  pub took : Took part_counts sheet_batch t.counts t.input u.counts u.input
  pub wrote : Wrote t.output (length (part_sheets t.counts took.came.bytes)) u.output
  pub short : length (part_sheets t.counts took.came.bytes) ≤ longest_sheets

-- some card, as long as what was read, was counted, and the text of its day sheets is written, or a write failed
pub record TellsCard (t : Turn Counts) : Type 0 where
  pub card : List ℕ
  pub read : t.input.read ≡ length card
  pub counts : t.counts ≡ part_counts untallied card
  pub text : t.output.ok ≡ true → t.output.written ≡ length (sheets_text card)

-- 1 where a record was no day sheet
abbrev pub sheets_status : Turn Counts → Status
sheets_status t = cond (eqb t.counts.others 0) Done AnsweredNo

-- only of a whole card is that said
abbrev pub EndsSheets : Turn Counts → Status → Type 0
EndsSheets t r = ((is_whole t ≡ true) × (r ≡ sheets_status t)) ⊎ (r ≡ NotDone)
