-- What `cardlook` promises. Assumes nothing.
use Rattle.std.specs.Prelude.{◌≡◌, true, cond, List, ◌⊎◌, ℕ, ◌<◌, eqb, length}
use Rattle.card.specs.Card.{record_numbered, fine}
use Rattle.show.specs.Look.{look_text}
use Rattle.programs.specs.declared.input.Input.{Input}
use Rattle.programs.specs.declared.output.Output.{Output}
use Rattle.programs.specs.declared.answer.Answered.{Answered}
use Rattle.programs.specs.declared.status.Status.{Status}
use Rattle.programs.specs.declared.status.Status.TheVariants.{Done, AnsweredNo, NotDone}
use Rattle.programs.specs.Stream.{is_well}

-- 2 where a read or write failed, or the card has no such slot; else 0 where it is blank or would be restored, and 1 where it would be refused
abbrev pub look_status : List ℕ → Input → Output → Status
look_status slot i o = cond (is_well i o) (cond (eqb (length slot) 0) NotDone (cond (fine slot) Done AnsweredNo)) NotDone

-- the look at the slot with the number n of some card, as long as what was read, is written; nothing where a read failed or there is none
pub record LooksCard (n : ℕ) (r : Answered) : Type 0 where
  pub card : List ℕ
  pub read : r.input.read ≡ length card
  pub text : is_well r.input r.output ≡ true → 0 < length (record_numbered card n)
      → r.output.written ≡ length (look_text n (record_numbered card n))
  pub silent : (r.input.failed ≡ true) ⊎ (length (record_numbered card n) ≡ 0) → r.output.written ≡ 0
  pub status : r.status ≡ look_status (record_numbered card n) r.input r.output
