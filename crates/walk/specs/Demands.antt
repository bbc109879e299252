-- The demands on walk and look, as statements about the definitions; proofs/Demands.antt proves each under its name in small letters.
-- N is the number of records of the card, blank slots and a shorter last piece included. Assumes nothing.
use Rattle.std.specs.Prelude.{◌≡◌, ◌≢◌, List, ℕ, ◌+◌, ◌≤◌, ◌<◌, length}
use Rattle.field.specs.Question.{accepted, refused}
use Rattle.card.specs.Record.{record_of, record_written}
use Rattle.card.specs.Slots.{record_count, record_at}
use Rattle.walk.specs.declared.Walk.{Walk}
use Rattle.walk.specs.Restored.{restored_card}
use Rattle.walk.specs.Walk.{step_of, step_state, step_written, after_steps, steps_of, state_over, after_states}
use Rattle.walk.specs.Look.{look_size, look_symbols, look_of, look_written}

-- ---- restoring again

-- a record that was restored is accepted with 0 changed, and restores to itself
abbrev pub RestoredAgain : Type 0
RestoredAgain =
    (r : List ℕ) (k : ℕ) → record_of r ≡ accepted k
    → (record_of (record_written r) ≡ accepted 0) × (record_written (record_written r) ≡ record_written r)

-- ---- the walk

-- the walk is done after k steps and not before: no step was refused, the next record is N + 1, and every record was restored
pub record Done (k : ℕ) (card : List ℕ) : Type 0 where
  pub passed : (j : ℕ) → j < k → step_of (after_steps j card).state (after_steps j card).card ≡ accepted 0
  pub not-before : (j : ℕ) → j < k → (after_steps j card).state.next ≤ record_count (length card)
  pub next : (after_steps k card).state.next ≡ record_count (length card) + 1
  pub content : (after_steps k card).card ≡ restored_card card

-- after N / 16 steps, rounded up, it is done
abbrev pub WalkDone : Type 0
WalkDone = (card : List ℕ) → Done (steps_of (record_count (length card))) card

-- the cards that are lent, each of n bytes, may hold anything: no step is ever refused, and the next record is N + 1 after N / 16 steps,
-- rounded up, and not before
pub record Through (n : ℕ) (cards : ℕ → List ℕ) : Type 0 where
  pub passed : (j : ℕ) → step_of (state_over n cards j) (cards j) ≡ accepted 0
  pub not-before : (j : ℕ) → j < steps_of (record_count n) → (state_over n cards j).next ≤ record_count n
  pub next : (state_over n cards (steps_of (record_count n))).next ≡ record_count n + 1

abbrev pub WalkThrough : Type 0
WalkThrough = (n : ℕ) (cards : ℕ → List ℕ) → ((j : ℕ) → length (cards j) ≡ n) → Through n cards

-- the card then has its length, and each record is as if it had been restored alone
pub record Alone (old new : List ℕ) : Type 0 where
  pub size : length new ≡ length old
  pub each : (i : ℕ) → i < record_count (length old) → record_at new i ≡ record_written (record_at old i)

abbrev pub EachAlone : Type 0
EachAlone = (card : List ℕ) → Alone card (restored_card card)

-- the step changes nothing
pub record Unmoved (w : Walk) (card : List ℕ) : Type 0 where
  pub state : step_state w card ≡ w
  pub content : step_written w card ≡ card

-- a step after the end is not refused, and changes nothing
abbrev pub AfterEnd : Type 0
AfterEnd =
    (w : Walk) (card : List ℕ) → length card ≡ w.length → w.next ≡ record_count (length card) + 1
    → (step_of w card ≡ accepted 0) × Unmoved w card

-- a card of another length is refused with 2, after the end too
abbrev pub OtherLength : Type 0
OtherLength = (w : Walk) (card : List ℕ) → length card ≢ w.length → step_of w card ≡ refused 2

-- a refused step changes nothing
abbrev pub RefusedStep : Type 0
RefusedStep = (w : Walk) (card : List ℕ) (n : ℕ) → step_of w card ≡ refused n → Unmoved w card

-- ---- the look

-- on the card `now` a look at record i, counted from 0, gives the symbols that restoring it on the card `before` writes, or its refusal
pub record Tells (before now : List ℕ) (i : ℕ) (row : List ℕ) : Type 0 where
  pub symbols : (k : ℕ) → record_of (record_at before i) ≡ accepted k
      → (look_of now (i + 1) row ≡ accepted 0) × (look_written now (i + 1) row ≡ look_symbols (record_at before i))
  pub refusal : (n : ℕ) → record_of (record_at before i) ≡ refused n
      → (look_of now (i + 1) row ≡ refused n) × (look_written now (i + 1) row ≡ row)

-- after any number of steps a look gives what restoring the record would have given before the first, treated already or not
abbrev pub LookBetween : Type 0
LookBetween =
    (card : List ℕ) (k i : ℕ) (row : List ℕ) → i < record_count (length card) → length row ≡ look_size
    → Tells card (after_steps k card).card i row

-- the same after steps of any walks over the card, in whatever states they were handed, refused ones among them
abbrev pub LookAmong : Type 0
LookAmong =
    (card : List ℕ) (ws : List Walk) (i : ℕ) (row : List ℕ) → i < record_count (length card) → length row ≡ look_size
    → Tells card (after_states ws card) i row
