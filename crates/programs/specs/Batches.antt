-- From batch to batch of an input. Assumes nothing.
use Rattle.std.specs.Prelude.{◌≡◌, Bool, true, false, ◌&&◌, ◌||◌, List, ℕ, ◌+◌, ltb, length}
use Rattle.card.specs.Slots.{Came}
use Rattle.programs.specs.declared.input.Input.{Input}
use Rattle.programs.specs.declared.turn.Turn.{Turn}
use Rattle.programs.specs.Stream.{has_ended}

-- s has become u over some bytes, as many as were read while the input came from i to j; n at most, and just n where it may go on
pub record Took {A : Type 0} (over : A → List ℕ → A) (n : ℕ) (s : A) (i : Input) (u : A) (j : Input) : Type 0 where
  pub came : Came over n s u j.going
  pub read : j.read ≡ i.read + length came.bytes
  pub well : j.going ≡ true → j.failed ≡ false

-- all that is looked at was read: the input has ended, or goes on behind n bytes
abbrev pub seen_all : ℕ → Input → Bool
seen_all n i = has_ended i || ltb n i.read

-- the input has ended, and every write succeeded
abbrev pub is_whole : {A : Type 0} → Turn A → Bool
is_whole t = has_ended t.input && t.output.ok
