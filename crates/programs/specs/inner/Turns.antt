-- Between batches: what a step requires and leaves. Assumes nothing.
use Rattle.std.specs.Prelude.{◌≡◌, Bool, true, false, ◌&&◌, List, ℕ, ◌+◌, ◌^◌, ◌≤◌, ◌<◌}
use Rattle.card.specs.declared.Progress.{Progress}
use Rattle.card.specs.Listing.{start}
use Rattle.card.specs.inner.Room.{Within}
use Rattle.programs.specs.declared.input.Input.{Input}
use Rattle.programs.specs.declared.output.Output.{Output}
use Rattle.programs.specs.declared.turn.Turn.{Turn}
use Rattle.programs.specs.Stream.{unread}
use Rattle.programs.specs.Batches.{Took}

-- so many bytes more can be read: no read has ended the input or failed
pub record CanRead (i : Input) : Type 0 where
  pub going : i.going ≡ true
  pub well : i.failed ≡ false
  pub small : i.read ≤ 2 ^ 62

-- so many bytes more can be written: no write has failed
pub record CanWrite (o : Output) (n : ℕ) : Type 0 where
  pub ok : o.ok ≡ true
  pub small : o.written + n < 2 ^ 64

-- before a batch
pub record BatchReady (t : Turn Progress) : Type 0 where
  pub input : CanRead t.input
  pub output : CanWrite t.output (2 ^ 16)
  pub counts : Within (2 ^ 62) t.counts

-- before the first batch
pub record Begun (t : Turn Progress) : Type 0 where
  pub progress : t.counts ≡ start
  pub read : t.input.read ≡ 0
  pub going : t.input.going ≡ true
  pub well : t.input.failed ≡ false
  pub written : t.output.written ≡ 0
  pub ok : t.output.ok ≡ true

-- another batch can be read, and what is made of it be written
abbrev pub can_go_on : {A : Type 0} → Turn A → Bool
can_go_on t = t.input.going && t.output.ok

-- ---- from batch to batch

-- the same from the first byte of the input on
abbrev pub TookAll : {A : Type 0} → (A → List ℕ → A) → ℕ → A → A → Input → Type 0
TookAll over n s u j = Took over n s unread u j
