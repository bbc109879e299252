-- Two slots that were sought, and what is written of them. Assumes nothing.
use Rattle.std.specs.Prelude.{◌≡◌, true, false, List, ℕ, ◌≤◌, ◌<◌, length}
use Rattle.card.specs.Card.{is_accepted}
use Rattle.card.specs.Record.{record_size}
use Rattle.show.specs.Comparison.{slots_outcome, comparison_text}
use Rattle.programs.specs.declared.input.Input.{Input}
use Rattle.programs.specs.declared.output.Output.{Output}
use Rattle.programs.specs.Seek.{FindsSlot}

-- where the card read as i has a slot with the number n, that is the slot
pub record SlotFound (n : ℕ) (i : Input) (slot : List ℕ) : Type 0 where
  pub short : length slot ≤ record_size
  pub found : 0 < length slot → FindsSlot n i slot

-- the text of the slots a and b was written, nothing where they are refused
pub record WritesAccepted (a b : List ℕ) (o : Output) : Type 0 where
  pub text : o.ok ≡ true → o.written ≡ length (comparison_text a b)
  pub silent : is_accepted (slots_outcome a b) ≡ false → o.written ≡ 0
