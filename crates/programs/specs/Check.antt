-- What `cardcheck` promises. Assumes nothing.
use Rattle.std.specs.Prelude.{◌≡◌, Bool, true, false, cond, List, ◌⊎◌, ℕ, length}
use Rattle.card.specs.Card.{searched}
use Rattle.card.specs.Checked.{names, check_text}
use Rattle.programs.specs.declared.input.Input.{Input}
use Rattle.programs.specs.declared.output.Output.{Output}
use Rattle.programs.specs.declared.answer.Answered.{Answered}
use Rattle.programs.specs.declared.status.Status.{Status}
use Rattle.programs.specs.declared.status.Status.TheVariants.{Done, AnsweredNo, NotDone}
use Rattle.programs.specs.Stream.{has_ended, is_well}

-- the text is what a check says of some card, as long as what was read without a failure; it names a record, or the input has ended
pub record LineOf (i : Input) (text : List ℕ) : Type 0 where
  pub card : List ℕ
  pub read : i.read ≡ length card
  pub well : i.failed ≡ false
  pub says : text ≡ check_text card
  pub behind : (names (searched 0 card) ≡ true) ⊎ (has_ended i ≡ true)

-- 2 where a read or write failed, or the input did not end; else 1 where a record would be refused, and 0 where none would be
abbrev pub check_status : Bool → Input → Output → Status
check_status found i o = cond (is_well i o) (cond found AnsweredNo (cond (has_ended i) Done NotDone)) NotDone

-- some card, as long as what was read, was searched; its line is written where a record is named or the input has ended, and nothing where a
-- read failed or neither is so
pub record ChecksCard (r : Answered) : Type 0 where
  pub card : List ℕ
  pub read : r.input.read ≡ length card
  pub text : is_well r.input r.output ≡ true → (names (searched 0 card) ≡ true) ⊎ (has_ended r.input ≡ true) → r.output.written ≡ length (check_text card)
  pub silent : (r.input.failed ≡ true) ⊎ ((names (searched 0 card) ≡ false) × (has_ended r.input ≡ false)) → r.output.written ≡ 0
  pub status : r.status ≡ check_status (names (searched 0 card)) r.input r.output
