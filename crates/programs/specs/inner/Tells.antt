-- The day sheets of a card printed batch by batch. Assumes nothing.
use Rattle.std.specs.Prelude.{◌≡◌, true, false, ℕ, ◌+◌, ◌*◌, ◌^◌, ◌≤◌, length}
use Rattle.card_csv.specs.Text.{sheets_header, part_sheets, part_counts, untallied}
use Rattle.card_csv.specs.Batch.{sheet_batch, longest_sheets}
use Rattle.card_csv.specs.inner.Room.{header_room, TallyWithin}
use Rattle.card_csv.specs.declared.Counts.{Counts}
use Rattle.programs.specs.declared.turn.Turn.{Turn}
use Rattle.programs.specs.inner.Turns.{CanRead, CanWrite, TookAll}

-- before the first batch: the header is written, or a write failed
pub record TellsNothing (t : Turn Counts) : Type 0 where
  pub counts : t.counts ≡ untallied
  pub read : t.input.read ≡ 0
  pub well : t.input.failed ≡ false
  pub text : t.output.ok ≡ true → t.output.written ≡ length sheets_header
  pub short : length sheets_header ≤ header_room

-- before a batch
pub record TellReady (t : Turn Counts) : Type 0 where
  pub input : CanRead t.input
  pub output : CanWrite t.output (2 ^ 16)
  pub counts : TallyWithin (2 ^ 62) t.counts

-- some slots were printed, all that were read: i batches at most, and just so many where the card may go on
pub record TellsSome (i : ℕ) (t : Turn Counts) : Type 0 where
  pub took : TookAll part_counts (i * sheet_batch) untallied t.counts t.input
  pub text : t.output.ok ≡ true → t.output.written ≡ length sheets_header + length (part_sheets untallied took.came.bytes)
  pub short : t.output.ok ≡ true → t.output.written ≤ header_room + i * longest_sheets
