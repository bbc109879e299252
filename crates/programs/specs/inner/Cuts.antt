-- A text of day sheets taken part by part. Assumes nothing.
use Rattle.std.specs.Prelude.{Err, ◌≡◌, Bool, true, false, ◌&&◌, List, [], ◌++◌, ℕ, ◌+◌, ◌≤◌, ltb, length, take}
use Rattle.card_csv.specs.declared.TextFault.TheVariants.{TooLong}
use Rattle.card_csv.specs.Making.{text_begun, lines_read, lines_made, lines_from, last_line, is_fine}
use Rattle.card_csv.specs.inner.Room.{text_size}
use Rattle.programs.specs.declared.input.Input.{Input}
use Rattle.programs.specs.declared.intake.Taken.{Taken}

-- more was read behind so many bytes that were kept
pub record ReadsOn (i : Input) (kept : ℕ) (old : List ℕ) (r : Input) (new : List ℕ) : Type 0 where
  pub size : length new ≡ text_size
  pub same : take kept new ≡ take kept old
  pub fits : kept + r.count ≤ text_size
  pub total : r.read ≡ i.read + r.count
  pub well : r.going ≡ true → r.failed ≡ false

-- no line was refused, and no write failed
abbrev pub goes_further : Taken → Bool
goes_further t = is_fine t.state.verdict && t.output.ok

-- more can be read, and what is made of it be written
abbrev pub is_open : Taken → Bool
is_open t = ltb t.kept text_size && (t.input.going && goes_further t)

-- parts of a text were taken, of at most so many bytes and with at most so many bytes of records: lines of it, which stand before the piece
-- that is kept at the front of the buffer, and their records were written, where records are. Where no line was refused, the piece has no end.
pub record TakesParts (write : Bool) (most room : ℕ) (t : Taken) (buf : List ℕ) : Type 0 where
  pub text : List ℕ
  pub lines : List (List ℕ)
  pub size : t.input.read ≡ length text
  pub cut : (more : List ℕ) → lines_from [] (text ++ more) ≡ lines ++ lines_from [] (take t.kept buf ++ more)
  pub state : t.state ≡ lines_read text_begun lines
  pub last : is_fine t.state.verdict ≡ true → lines_from [] (take t.kept buf) ≡ last_line (take t.kept buf)
  pub written : write ≡ true → t.output.ok ≡ true → t.output.written ≡ length (lines_made text_begun lines)
  pub well : t.input.going ≡ true → t.input.failed ≡ false
  pub buffer : length buf ≡ text_size
  pub kept : t.kept ≤ text_size
  pub few : t.state.lines + t.kept ≤ t.input.read
  pub read : t.input.read ≤ most
  pub small : write ≡ true → t.output.ok ≡ true → t.output.written ≤ room

-- the next line is too long
abbrev pub refused_long : Taken → Taken
refused_long t =
    record {
      state = record { full = t.state.full; lines = t.state.lines + 1; verdict = Err TooLong };
      input = t.input;
      output = t.output;
      kept = t.kept;
    }
