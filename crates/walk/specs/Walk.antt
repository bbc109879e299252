-- A walk over a card: one step restores up to 16 records, in card order. N is the number of records of the card. Assumes nothing.
use Rattle.std.specs.Prelude.{Ok, Err, Result, ◌≡◌, List, [], ◌∷◌, ℕ, zero, suc, ◌+◌, ◌-◌, ◌/◌, min, eqb, length}
use Rattle.std.specs.Result.{result_and, result_unwrap_or}
use Rattle.field.specs.Question.{Verdict, Outcome, ask}
use Rattle.field.specs.declared.Question.{Question}
use Rattle.field.specs.declared.Question.TheVariants.{Length, RecordNumber}
use Rattle.code.specs.Call.{done, written}
use Rattle.card.specs.Slots.{record_count}
use Rattle.card.specs.Card.{is_number}
use Rattle.walk.specs.declared.Walk.{Walk}
use Rattle.walk.specs.Restored.{restored_from}

-- so many records are treated in a step, fewer only at the end
abbrev pub step_records : ℕ
step_records = 16

-- the state of a walk that began with a card of n bytes
abbrev pub walk_at : ℕ → ℕ → Walk
walk_at n next = record { length = n; next = next }

-- the state before the first step
abbrev pub begun : ℕ → Walk
begun n = walk_at n 1

-- the card, of n bytes, has the length that the walk began with, and the next record is 1 to N + 1
unfoldable pub step_asked : Walk → ℕ → Verdict
step_asked w n = ask (eqb n w.length) Length (ask (is_number (record_count n + 1) w.next) RecordNumber (Ok tt))

-- what a step answers
abbrev pub step_of : Walk → List ℕ → Outcome
step_of w card = done (step_asked w (length card))

-- the number of records that a step treats, on a card of n bytes
abbrev pub step_count : Walk → ℕ → ℕ
step_count w n = min step_records (record_count n + 1 - w.next)

-- the state for the next step: as handed in where this one is refused
abbrev pub state_after : Verdict → Walk → Walk → Walk
state_after (Ok tt) old new = new
state_after (Err q) old new = old

unfoldable pub step_state : Walk → List ℕ → Walk
step_state w card = state_after (step_asked w (length card)) w (walk_at w.length (w.next + step_count w (length card)))

-- the card after a step: as it was where the step is refused
unfoldable pub step_written : Walk → List ℕ → List ℕ
step_written w card = written (step_asked w (length card)) card (restored_from (w.next - 1) (step_count w (length card)) card)

-- the call's promise: what a step answers, the state that it gives, or w where it is refused, and what it leaves in the card
pub record Steps (w : Walk) (old : List ℕ) (r : Result Walk Question) (new : List ℕ) : Type 0 where
  pub answer : done (result_and r (Ok tt)) ≡ step_of w old
  pub state : result_unwrap_or r w ≡ step_state w old
  pub content : new ≡ step_written w old

-- ---- steps one after the other, each handed the state that the last returned, all lent the same card

pub record Moment : Type 0 where
  pub state : Walk
  pub card : List ℕ

abbrev pub stepped : Moment → Moment
stepped x = record { state = step_state x.state x.card; card = step_written x.state x.card }

-- the moment after k steps
unfoldable pub after_steps : ℕ → List ℕ → Moment
after_steps zero card = record { state = begun (length card); card = card }
after_steps (suc k) card = stepped (after_steps k card)

-- the number of steps of a whole walk over N records: N / 16, rounded up
abbrev pub steps_of : ℕ → ℕ
steps_of N = (N + (step_records - 1)) / step_records

-- ---- the same, each step lent a card of its own; only the lengths of the cards enter

-- the state after k steps of a walk that began with a card of n bytes; step j, counted from 0, is lent the card `cards j`
unfoldable pub state_over : ℕ → (ℕ → List ℕ) → ℕ → Walk
state_over n cards zero = begun n
state_over n cards (suc k) = step_state (state_over n cards k) (cards k)

-- ---- steps of any walks, one after the other, all lent the same card: the card after a step in each of these states, refused steps too

unfoldable pub after_states : List Walk → List ℕ → List ℕ
after_states [] card = card
after_states (w ∷ ws) card = after_states ws (step_written w card)
