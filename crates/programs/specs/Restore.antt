-- What `cardrestore` promises, with a longest reach. Assumes nothing.
use Rattle.std.specs.Prelude.{◌≡◌, true, cond, List, ◌⊎◌, ℕ, eqb, length}
use Rattle.card.specs.declared.Progress.{Progress}
use Rattle.card.specs.Listing.{progress_up_to, start}
use Rattle.card.specs.Batch.{batch_size}
use Rattle.programs.specs.declared.turn.Turn.{Turn}
use Rattle.programs.specs.declared.status.Status.{Status}
use Rattle.programs.specs.declared.status.Status.TheVariants.{Done, AnsweredNo, NotDone}
use Rattle.programs.specs.Stream.{Wrote}
use Rattle.programs.specs.Batches.{Took, is_whole}

-- a batch was restored: its slots are counted, and as many bytes written as read
pub record RestoresBatch (most : ℕ) (t u : Turn Progress) : Type 0 where
  pub took : Took (progress_up_to most) batch_size t.counts t.input u.counts u.input
  pub wrote : Wrote t.output (length took.came.bytes) u.output

-- some card, as long as what was read, was restored and counted, and as many bytes were written, or a write failed
pub record RestoresCard (most : ℕ) (t : Turn Progress) : Type 0 where
  pub card : List ℕ
  pub read : t.input.read ≡ length card
  pub progress : t.counts ≡ progress_up_to most start card
  pub wrote : t.output.ok ≡ true → t.output.written ≡ length card

-- 1 where a record was refused and is as it was
abbrev pub restore_status : Turn Progress → Status
restore_status t = cond (eqb t.counts.totals.refused 0) Done AnsweredNo

-- only of a whole card is that said
abbrev pub EndsRestoring : Turn Progress → Status → Type 0
EndsRestoring t r = ((is_whole t ≡ true) × (r ≡ restore_status t)) ⊎ (r ≡ NotDone)
