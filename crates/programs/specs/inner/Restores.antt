-- A card restored batch by batch. Assumes nothing.
use Rattle.std.specs.Prelude.{◌≡◌, true, List, ℕ, length}
use Rattle.card.specs.declared.Progress.{Progress}
use Rattle.programs.specs.declared.output.Output.{Output}
use Rattle.programs.specs.declared.cardrestore.Restored.{Restored}
use Rattle.programs.specs.Stream.{Wrote}
use Rattle.card.specs.Listing.{progress_up_to, start}
use Rattle.programs.specs.declared.turn.Turn.{Turn}
use Rattle.programs.specs.inner.Turns.{TookAll}

-- some slots were restored and written, and counted as they were read
pub record RestoresPart (most : ℕ) (s : Progress) (o : Output) (old : List ℕ) (r : Restored) : Type 0 where
  pub progress : r.progress ≡ progress_up_to most s old
  pub wrote : Wrote o (length old) r.output

-- some bytes were restored, all that were read: n at most, and just n where the card may go on; as many were written, or a write failed
pub record RestoresSome (n most : ℕ) (t : Turn Progress) : Type 0 where
  pub took : TookAll (progress_up_to most) n start t.counts t.input
  pub wrote : t.output.ok ≡ true → t.output.written ≡ length took.came.bytes
