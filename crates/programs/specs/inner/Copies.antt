-- A card asked, and converted, batch by batch. Assumes nothing.
use Rattle.std.specs.Prelude.{◌≡◌, true, false, ℕ, ◌+◌, ◌*◌, ◌%◌, ◌^◌, ◌≤◌, length}
use Rattle.card.specs.declared.parts.Findings.{Findings}
use Rattle.card.specs.Record.{size_of, record_size}
use Rattle.card.specs.Batch.{batch_records}
use Rattle.card.specs.Findings.{part_found}
use Rattle.programs.specs.declared.input.Input.{Input}
use Rattle.programs.specs.declared.cardconvert.Inquiry.{Inquiry}
use Rattle.programs.specs.declared.cardconvert.Copying.{Copying}
use Rattle.programs.specs.Batches.{Took}
use Rattle.programs.specs.Convert.{other_edition}

-- a batch was asked
pub record AsksBatch (k : ℕ) (s : Findings) (i : Input) (r : Inquiry) : Type 0 where
  pub took : Took (part_found k) (batch_records * size_of k) s i r.findings r.input
  pub left : r.rest ≡ length took.came.bytes % size_of k

-- so many slots are converted at a time
abbrev pub copy_slots : ℕ
copy_slots = 200

abbrev pub copy_size : ℕ
copy_size = copy_slots * record_size

-- every batch so far was full, passed and was written
pub record Fine (c : Copying) : Type 0 where
  pub going : c.input.going ≡ true
  pub well : c.input.failed ≡ false
  pub ok : c.output.ok ≡ true
  pub read_small : c.input.read ≤ 2 ^ 62
  pub written_small : c.output.written ≤ 2 ^ 62

-- a batch more: n bytes were read and m written
pub record CopiesBatch (n m : ℕ) (c r : Copying) : Type 0 where
  pub going : r.input.going ≡ true
  pub well : r.input.failed ≡ false
  pub ok : r.output.ok ≡ true
  pub read : r.input.read ≡ c.input.read + n
  pub written : r.output.written ≡ c.output.written + m

-- so many slots were copied, and the input goes on
pub record CopiesSlots (k slots : ℕ) (c : Copying) : Type 0 where
  pub going : c.input.going ≡ true
  pub well : c.input.failed ≡ false
  pub ok : c.output.ok ≡ true
  pub read : c.input.read ≡ slots * size_of k
  pub written : c.output.written ≡ slots * size_of (other_edition k)
