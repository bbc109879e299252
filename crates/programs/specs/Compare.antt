-- What `cardcompare` promises. Assumes nothing.
use Rattle.std.specs.Prelude.{◌≡◌, Bool, true, false, cond, not, ◌&&◌, List, ◌⊎◌, ℕ, eqb, length}
use Rattle.field.specs.Question.{Outcome, accepted, refused, refusal}
use Rattle.field.specs.declared.Question.TheVariants.{RecordNumber}
use Rattle.card.specs.Card.{record_numbered, is_accepted}
use Rattle.sheet.specs.Sheet.{quarters}
use Rattle.report.specs.Day.{Day, sheet, no_sheet, day_of}
use Rattle.report.specs.Compare.{compare_total}
use Rattle.show.specs.Comparison.{slots_outcome, comparison_text}
use Rattle.programs.specs.declared.input.Input.{Input}
use Rattle.programs.specs.declared.output.Output.{Output}
use Rattle.programs.specs.declared.cardcompare.Refusal.{Refusal}
use Rattle.programs.specs.declared.cardcompare.Refusal.TheVariants.{Nobody, Controller, Cupboard}
use Rattle.programs.specs.declared.cardcompare.CardsCompared.{CardsCompared}
use Rattle.programs.specs.declared.status.Status.{Status}
use Rattle.programs.specs.declared.status.Status.TheVariants.{Done, AnsweredNo, NotDone}

-- ---- whose record a message names

-- what a record answers by itself, read as a day sheet
abbrev pub day_answer : Day → Outcome
day_answer (sheet k ss) = accepted k
day_answer (no_sheet n) = refused n

-- a slot of no bytes is none: its card has no record of that number
abbrev pub sheet_answer : List ℕ → Outcome
sheet_answer slot = cond (eqb (length slot) 0) (refused (refusal RecordNumber)) (day_answer (day_of slot))

-- nothing is said, or the refusal with this number of the controller's or the cupboard's record
pub data Said : Type 0 where
  nothing : Said
  of_controller : ℕ → Said
  of_cupboard : ℕ → Said

-- where both are day sheets, by the outcome of comparing them
abbrev pub sheets_said : Outcome → Said
sheets_said (accepted w) = nothing
sheets_said (refused n) = of_cupboard n

-- by what each record answers by itself, the controller's first, and then by that outcome
abbrev pub said_by : Outcome → Outcome → Outcome → Said
said_by (refused n) b o = of_controller n
said_by (accepted k) (refused n) o = of_cupboard n
said_by (accepted k) (accepted l) o = sheets_said o

-- of the slots a and b
abbrev pub said_of : List ℕ → List ℕ → Said
said_of a b = said_by (sheet_answer a) (sheet_answer b) (slots_outcome a b)

-- what a refusal stands for
abbrev pub said : Refusal → Said
said Nobody = nothing
said (Controller q) = of_controller (refusal q)
said (Cupboard q) = of_cupboard (refusal q)

-- ---- how the comparison ended

-- no read of either card failed
abbrev pub both_read : Input → Input → Bool
both_read i j = not i.failed && not j.failed

-- an outcome, and in how many quarter hours the counts are equal
abbrev pub compared_status : Outcome → ℕ → Status
compared_status (accepted w) equal = cond (eqb equal quarters) Done AnsweredNo
compared_status (refused n) equal = NotDone

-- 0 where the slots a and b are compared and all counts are equal, 1 where some differ; 2 where they are refused, or a read or write failed
abbrev pub compare_status : List ℕ → List ℕ → Input → Input → Output → Status
compare_status a b i j o = cond (both_read i j && o.ok) (compared_status (slots_outcome a b) (compare_total a 1 b 1 0)) NotDone

-- ---- the program

-- the comparison of the slots with the numbers n and m of two cards, as long as what was read of each, is written, and nothing where a read
-- failed or it is refused
pub record ComparesCards (n m : ℕ) (r : CardsCompared) : Type 0 where
  pub controller : List ℕ
  pub cupboard : List ℕ
  pub read : r.controller.read ≡ length controller
  pub also-read : r.cupboard.read ≡ length cupboard
  pub text : both_read r.controller r.cupboard ≡ true → r.output.ok ≡ true
      → r.output.written ≡ length (comparison_text (record_numbered controller n) (record_numbered cupboard m))
  pub silent : (both_read r.controller r.cupboard ≡ false)
      ⊎ (is_accepted (slots_outcome (record_numbered controller n) (record_numbered cupboard m)) ≡ false)
      → r.output.written ≡ 0
  pub refusal : said r.refusal
      ≡ cond (both_read r.controller r.cupboard) (said_of (record_numbered controller n) (record_numbered cupboard m)) nothing
  pub status : r.status
      ≡ compare_status (record_numbered controller n) (record_numbered cupboard m) r.controller r.cupboard r.output
