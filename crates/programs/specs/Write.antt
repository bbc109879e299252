-- What `cardwrite` promises. Assumes nothing.
use Rattle.std.specs.Prelude.{Ok, Err, ◌≡◌, Bool, true, false, ◌&&◌, ◌||◌, List, ◌⊎◌, ℕ, length, drop}
use Rattle.card_csv.specs.declared.TextFault.TheVariants.{NoHeader, Wrong, TooLong}
use Rattle.card_csv.specs.Making.{TextVerdict, text_begun, lines_made, text_state, card_of, is_complete}
use Rattle.programs.specs.declared.intake.Taken.{Taken}
use Rattle.programs.specs.declared.output.Output.{Output}
use Rattle.programs.specs.declared.status.Status.{Status}
use Rattle.programs.specs.declared.status.Status.TheVariants.{Done, NotDone}
use Rattle.programs.specs.Stream.{has_ended}

-- these bytes stand in the card of some lines, behind as many as were written
pub record PartOfCard (o : Output) (bytes : List ℕ) : Type 0 where
  pub lines : List (List ℕ)
  pub content : bytes ≡ drop o.written (lines_made text_begun lines)

-- a line was refused for what it says
abbrev pub is_refused : TextVerdict → Bool
is_refused (Ok tt) = false
is_refused (Err NoHeader) = true
is_refused (Err (Wrong f)) = true
is_refused (Err TooLong) = false

-- how the text stands is settled: a line was refused, or the input has ended and no write failed
abbrev pub is_settled : Taken → Bool
is_settled t = is_refused t.state.verdict || (has_ended t.input && t.output.ok)

-- what was read is a text, which was taken to its end or to a line that was refused, and whose card was written, where records are. Of a text
-- with a line that is too long nothing is promised but that verdict: it is given before the line ends.
pub record TakesText (write : Bool) (t : Taken) : Type 0 where
  pub text : List ℕ
  pub size : t.input.read ≡ length text
  pub state : is_settled t ≡ true → t.state ≡ text_state text
  pub written : is_settled t ≡ true → write ≡ true → t.output.ok ≡ true → t.output.written ≡ length (card_of text)

-- the input has ended, the text has a header, no line was refused, and every write succeeded
abbrev pub all_taken : Taken → Bool
all_taken t = has_ended t.input && (is_complete t.state && t.output.ok)

-- what was read is a text that is accepted as a whole, and its whole card was written
pub record CardWritten (t : Taken) : Type 0 where
  pub text : List ℕ
  pub size : t.input.read ≡ length text
  pub accepted : is_complete (text_state text) ≡ true
  pub written : t.output.written ≡ length (card_of text)

-- only then is the card done
abbrev pub EndsWriting : Taken → Status → Type 0
EndsWriting t r = ((all_taken t ≡ true) × CardWritten t × (r ≡ Done)) ⊎ (r ≡ NotDone)
