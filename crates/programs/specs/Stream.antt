-- Reading and writing, as far as a program can know them: how many bytes were moved in all, and whether a call failed. Assumes nothing.
use Rattle.std.specs.Prelude.{◌≡◌, Bool, true, false, not, ◌&&◌, List, ℕ, ◌+◌, ◌%◌, ◌≤◌, ◌<◌, eqb, length}
use Rattle.card.specs.Record.{size_of, record_size}
use Rattle.card.specs.Conversion.{old_erasure_bytes}
use Rattle.programs.specs.declared.input.Input.{Input}
use Rattle.programs.specs.declared.output.Output.{Output}

-- ---- reading

-- nothing has been read
abbrev pub unread : Input
unread = record { read = 0; count = 0; going = true; failed = false }

-- the input has ended, and no read failed
abbrev pub has_ended : Input → Bool
has_ended i = not i.going && not i.failed

-- a batch was read into a buffer, where the input stood at i before it: the buffer is full just where the input may go on
pub record Reads (i : Input) (old : List ℕ) (j : Input) (new : List ℕ) : Type 0 where
  pub size : length new ≡ length old
  pub most : j.count ≤ length new
  pub total : j.read ≡ i.read + j.count
  pub full : j.going ≡ true → j.count ≡ length new
  pub short : j.going ≡ false → j.count < length new
  pub well : j.going ≡ true → j.failed ≡ false

-- a card of n bytes is no whole number of slots, but one of slots of the old edition
abbrev pub looks_old : ℕ → Bool
looks_old n = not (eqb (n % record_size) 0) && eqb (n % size_of old_erasure_bytes) 0

-- ---- writing

-- nothing has been written
abbrev pub unwritten : Output
unwritten = record { written = 0; ok = true }

-- n bytes were written behind what o had written, or a write failed
abbrev pub Wrote : Output → ℕ → Output → Type 0
Wrote o n r = r.ok ≡ true → r.written ≡ o.written + n

-- every read and write has succeeded
abbrev pub is_well : Input → Output → Bool
is_well i o = o.ok && not i.failed
