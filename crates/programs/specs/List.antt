-- What `cardlist` promises. Assumes nothing.
use Rattle.std.specs.Prelude.{◌≡◌, true, cond, List, ◌⊎◌, ℕ, ◌*◌, length}
use Rattle.card.specs.declared.Progress.{Progress}
use Rattle.card.specs.Record.{record_size}
use Rattle.card.specs.Listing.{part_lines, part_progress, most_records, listing}
use Rattle.card.specs.Batch.{batch_size}
use Rattle.programs.specs.declared.turn.Turn.{Turn}
use Rattle.programs.specs.declared.status.Status.{Status}
use Rattle.programs.specs.declared.status.Status.TheVariants.{Done, NotDone}
use Rattle.programs.specs.Stream.{Wrote, is_well}
use Rattle.programs.specs.Batches.{Took, seen_all}

-- a text is the lines of some slots
pub record Lines (text : List ℕ) : Type 0 where
  pub from : Progress
  pub slots : List ℕ
  pub lines : text ≡ part_lines from slots

-- a batch was listed: its bytes are counted, and its lines written
pub record ListsBatch (t u : Turn Progress) : Type 0 where
  pub took : Took part_progress batch_size t.counts t.input u.counts u.input
  pub wrote : Wrote t.output (length (part_lines t.counts took.came.bytes)) u.output

-- the listing of some card, as long as what was read, is written, or a write failed; then all that is listed was read, or a read failed
pub record ListsCard (t : Turn Progress) : Type 0 where
  pub card : List ℕ
  pub read : t.input.read ≡ length card
  pub text : t.output.ok ≡ true → t.output.written ≡ length (listing card)
  pub stopped : t.output.ok ≡ true → (seen_all (most_records * record_size) t.input ≡ true) ⊎ (t.input.failed ≡ true)

-- 0 where every read and write succeeded
abbrev pub list_status : Turn Progress → Status
list_status t = cond (is_well t.input t.output) Done NotDone
