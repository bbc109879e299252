-- A card check batch by batch. Assumes nothing.
use Rattle.std.specs.Prelude.{◌≡◌, List, ℕ, ◌≤◌, length}
use Rattle.card.specs.Slots.{over_slots}
use Rattle.card.specs.Card.{Search, passed, sought, searched}
use Rattle.card.specs.Checked.{found_line, names, Finds}
use Rattle.card.specs.Batch.{batch_size}
use Rattle.card.specs.Text.{Written}
use Rattle.card.specs.inner.Room.{longest_refusal}
use Rattle.programs.specs.declared.input.Input.{Input}
use Rattle.programs.specs.declared.cardcheck.Searching.{Searching}
use Rattle.programs.specs.Batches.{Took}

-- one batch was searched, where so many slots stand before it
pub record SearchesBatch (before : ℕ) (i : Input) (old : Written) (r : Searching) (new : Written) : Type 0 where
  pub end : Search
  pub took : Took (over_slots sought) batch_size (passed before) i end r.input
  pub found : Finds end old r.found new

-- all that was read was searched, and this is the line of the record that is named
pub record Searches (r : Searching) (line : List ℕ) : Type 0 where
  pub card : List ℕ
  pub read : r.input.read ≡ length card
  pub found : r.found ≡ names (searched 0 card)
  pub text : line ≡ found_line (searched 0 card)
  pub short : length line ≤ longest_refusal
