-- One slot, or some, or those of a step, restored and counted; a look at one record; how long the last line is. Assumes nothing.
use Rattle.std.specs.Prelude.{Ok, Result, ◌≡◌, List, ◌++◌, ℕ, ◌+◌, ◌-◌, ◌*◌, ◌≤◌, length, take, drop}
use Rattle.std.specs.Result.{result_and}
use Rattle.field.specs.Question.{Verdict}
use Rattle.field.specs.declared.Question.{Question}
use Rattle.card.specs.declared.Progress.{Progress}
use Rattle.card.specs.Record.{record_size, record_of, on_accept, record_up_to, record_written_up_to}
use Rattle.card.specs.Listing.{further_by, progress_up_to}
use Rattle.card.specs.inner.Room.{longest_field}
use Rattle.walk.specs.Restored.{restored_up_to, slots_from}
use Rattle.walk.specs.Walk.{walk_at, step_asked, step_count}
use Rattle.walk.specs.declared.Walk.{Walk}
use Rattle.walk.specs.declared.counting.Counted.{Counted}
use Rattle.code.specs.Call.{done, written}
use Rattle.walk.specs.Look.{look_symbols, uncounted}

-- the k slots behind the first i, restored up to n in their place
abbrev pub restored_from_up_to : ℕ → ℕ → ℕ → List ℕ → List ℕ
restored_from_up_to n i k card =
    take (i * record_size) card ++ (restored_up_to n (slots_from i k card) ++ drop (k * record_size) (drop (i * record_size) card))

-- a slot is restored up to n in its place and counted
pub record CountsSlot (n : ℕ) (s : Progress) (old : List ℕ) (r : Progress) (new : List ℕ) : Type 0 where
  pub content : new ≡ record_written_up_to n old
  pub progress : r ≡ further_by (record_up_to n) s old

-- so are the k slots behind the first i
pub record CountsFrom (n i k : ℕ) (s : Progress) (old : List ℕ) (r : Progress) (new : List ℕ) : Type 0 where
  pub content : new ≡ restored_from_up_to n i k old
  pub progress : r ≡ progress_up_to n s (slots_from i k old)

-- the card after a step that restores up to n
unfoldable pub step_written_up_to : ℕ → Walk → List ℕ → List ℕ
step_written_up_to n w card = written (step_asked w (length card)) card (restored_from_up_to n (w.next - 1) (step_count w (length card)) card)

-- what a step gives that is not refused: the state for the next one, and how far the counting has come behind the slots that it treats
abbrev pub counted_on : ℕ → Walk → Progress → List ℕ → Counted
counted_on n w s card =
    let count = step_count w (length card) in
    record { walk = walk_at w.length (w.next + count); progress = progress_up_to n s (slots_from (w.next - 1) count card) }

-- the step is refused as one that does not count, and counts the slots that it treats
pub record StepsCounting (n : ℕ) (w : Walk) (s : Progress) (old : List ℕ) (r : Result Counted Question) (new : List ℕ) : Type 0 where
  pub answer : r ≡ result_and (step_asked w (length old)) (Ok (counted_on n w s old))
  pub content : new ≡ step_written_up_to n w old

-- no more records are counted than slots
abbrev pub Sound : Progress → Type 0
Sound s = s.totals.accepted + s.totals.refused + 1 ≤ s.next

-- four words, of 34 letters with the spaces, and four fields
abbrev pub longest_restored : ℕ
longest_restored = 34 + 4 * longest_field

-- what a look at one record answers and leaves in the row
pub record ShowsRecord (r old : List ℕ) (v : Verdict) (new : List ℕ) : Type 0 where
  pub answer : done v ≡ uncounted (record_of r)
  pub symbols : new ≡ on_accept (record_of r) old (look_symbols r)
