-- A slot sought batch by batch. Assumes nothing.
use Rattle.std.specs.Prelude.{◌≡◌, true, false, List, [], Option, None, Some, IfSome, ◌⊎◌, ℕ, ◌+◌, ◌≤◌, ◌<◌, length, take}
use Rattle.card.specs.Record.{record_size}
use Rattle.card.specs.Batch.{batch_size}
use Rattle.card.specs.Slots.{record_at}
use Rattle.programs.specs.declared.input.Input.{Input}
use Rattle.programs.specs.declared.seek.Sought.{Sought}
use Rattle.programs.specs.Stream.{has_ended}

-- the slot of this length at the front of the buffer; nothing where none was found
abbrev pub kept : Option ℕ → List ℕ → List ℕ
kept None row = []
kept (Some n) row = take n row

-- slot k of a batch, counted from 0, stands at the front of the buffer
pub record SeeksBatch (k : ℕ) (i : Input) (r : Sought) (new : List ℕ) : Type 0 where
  pub bytes : List ℕ
  pub slot : kept r.len new ≡ record_at bytes k
  pub room : IfSome r.len (λ n. n ≤ length new)
  pub read : r.input.read ≡ i.read + length bytes
  pub full : r.input.going ≡ true → length bytes ≡ batch_size
  pub well : r.input.going ≡ true → r.input.failed ≡ false

-- slot k of all that was read stands there, a short one only where the input has ended or a read failed
pub record SeeksSlot (k : ℕ) (r : Sought) (new : List ℕ) : Type 0 where
  pub card : List ℕ
  pub slot : kept r.len new ≡ record_at card k
  pub room : IfSome r.len (λ n. n ≤ length new)
  pub read : r.input.read ≡ length card
  pub whole : 0 < length (record_at card k) → r.input.failed ≡ false → (length (record_at card k) ≡ record_size) ⊎ (has_ended r.input ≡ true)
