-- The questions of documents 01 and 02, their refusal numbers, and what a call answers. Assumes nothing.
use Rattle.std.specs.Prelude.{Ok, Err, Result, Bool, true, false, ◌&&◌, ◌||◌, List, [], ◌∷◌, ℕ, ltb, eqb}
use Rattle.field.specs.declared.Question.{Question}
use Rattle.field.specs.declared.Question.TheVariants.{Width, Length, ErasureCount, Padding, ErasurePlace, ErasureDistinct, Symbol, Correctable, Syndrome, Nonzero}
use Rattle.field.specs.declared.Question.TheVariants.{SheetWidth, Date, Unused, Unique, FourErasures, Reach, RecordNumber, Bay, Rewrite, SameDay, Window}

-- the refusal number of each question, in the order of the questions
abbrev pub refusal : Question → ℕ
refusal Width = 1
refusal Length = 2
refusal ErasureCount = 3
refusal Padding = 8
refusal ErasurePlace = 4
refusal ErasureDistinct = 5
refusal Symbol = 6
refusal Correctable = 7
refusal Syndrome = 9
refusal Nonzero = 10
refusal SheetWidth = 11
refusal Date = 12
refusal Unused = 13
refusal Unique = 14
refusal FourErasures = 15
refusal Reach = 16
refusal RecordNumber = 17
refusal Bay = 18
refusal Rewrite = 19
refusal SameDay = 20
refusal Window = 21

-- what a call answers, by the documents' numbers: a value, or a refusal number
pub data Outcome : Type 0 where
  accepted : ℕ → Outcome
  refused : ℕ → Outcome

-- what the questions of a call answer: all of them yes, or one of them no
abbrev pub Verdict : Type 0
Verdict = Result (Unit {0}) Question

-- a question that is answered no ends the call; one that is answered yes leads to the next
abbrev pub ask : Bool → Question → Verdict → Verdict
ask true q next = next
ask false q next = Err q

-- the outcome of a call whose questions have been put
abbrev pub after : Verdict → Outcome → Outcome
after (Ok tt) o = o
after (Err q) o = refused (refusal q)

-- question 1: is the width 3, 4, 5 or 7?
abbrev pub is_width : ℕ → Bool
is_width m = eqb m 3 || eqb m 4 || eqb m 5 || eqb m 7

-- question 7 of a list of symbols: is each below q?
abbrev pub all_below : ℕ → List ℕ → Bool
all_below q [] = true
all_below q (x ∷ xs) = ltb x q && all_below q xs
