-- A look at a record: the symbols that restoring it would give, or the refusal. Assumes nothing.
use Rattle.std.specs.Prelude.{Ok, Result, ◌≡◌, List, ◌++◌, ℕ, ◌-◌, eqb, length, replicate}
use Rattle.std.specs.Result.{result_and, result_unwrap_or}
use Rattle.field.specs.Question.{Verdict, Outcome, accepted, refused, ask, after}
use Rattle.field.specs.declared.Question.{Question}
use Rattle.field.specs.declared.Question.TheVariants.{Length, RecordNumber}
use Rattle.code.specs.Word.{longest}
use Rattle.code.specs.Call.{done}
use Rattle.card.specs.Record.{word_of, record_of, on_accept, record_written}
use Rattle.card.specs.Slots.{record_count}
use Rattle.card.specs.Card.{is_number, record_numbered}

-- a row has room for the longest word
abbrev pub look_size : ℕ
look_size = longest

-- a word as a row: 0 after its last place
abbrev pub in_row : List ℕ → List ℕ
in_row w = w ++ replicate (look_size - length w) 0

-- the symbols that restoring the record gives
abbrev pub look_symbols : List ℕ → List ℕ
look_symbols r = in_row (word_of (record_written r))

-- no count of changes comes with a look
abbrev pub uncounted : Outcome → Outcome
uncounted (accepted k) = accepted 0
uncounted (refused n) = refused n

-- the record's number is asked first, 1 to N on a card of n bytes; then the length of the row, which has room for m symbols
unfoldable pub look_asked : ℕ → ℕ → ℕ → Verdict
look_asked n number m = ask (is_number (record_count n) number) RecordNumber (ask (eqb m look_size) Length (Ok tt))

-- what a look at the record of that number answers
unfoldable pub look_of : List ℕ → ℕ → List ℕ → Outcome
look_of card number row = after (look_asked (length card) number (length row)) (uncounted (record_of (record_numbered card number)))

-- the row after the call: as it was where the look is refused
unfoldable pub look_written : List ℕ → ℕ → List ℕ → List ℕ
look_written card number row = on_accept (look_of card number row) row (look_symbols (record_numbered card number))

-- the call's promise: what a look answers and leaves in the row
pub record Looks (card : List ℕ) (number : ℕ) (old : List ℕ) (v : Verdict) (new : List ℕ) : Type 0 where
  pub answer : done v ≡ look_of card number old
  pub symbols : new ≡ look_written card number old

-- a row by value is zeros before the look, and so where it is refused
abbrev pub no_symbols : List ℕ
no_symbols = replicate look_size 0

-- what a look by value answers and gives, or zeros where it is refused
abbrev pub LooksAt : List ℕ → ℕ → Result (List ℕ) Question → Type 0
LooksAt card number r = Looks card number no_symbols (result_and r (Ok tt)) (result_unwrap_or r no_symbols)
