-- A report batch by batch. Assumes nothing.
use Rattle.std.specs.Prelude.{List, ℕ, ◌*◌}
use Rattle.card.specs.Record.{record_size}
use Rattle.card.specs.Listing.{most_records}
use Rattle.card.specs.Batch.{batch_size}
use Rattle.report.specs.Window.{no_report, part_added}
use Rattle.report.specs.declared.row.Window.{Window}
use Rattle.programs.specs.declared.input.Input.{Input}
use Rattle.programs.specs.Batches.{Took}
use Rattle.programs.specs.inner.Turns.{TookAll}

-- a batch entered the report
abbrev pub AddsBatch : Window → Input → List ℕ → Input → List ℕ → Type 0
AddsBatch w i old j new = Took (part_added w) batch_size old i new j

-- all that was read did, and where the input may go on, 1,000,000 records
abbrev pub AddsBatches : Window → Input → List ℕ → Type 0
AddsBatches w j new = TookAll (part_added w) (most_records * record_size) no_report new j
