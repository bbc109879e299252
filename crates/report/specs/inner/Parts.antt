-- The slot of a number, a record that is read, and the part of a choice. Assumes nothing.
use Rattle.std.specs.Prelude.{Ok, Err, Result}
use Rattle.std.specs.Prelude.{◌≡◌, true, List, ℕ, ◌-◌, ◌*◌, length}
use Rattle.std.specs.Borrow.{Bor}
use Rattle.field.specs.Question.{Outcome, accepted, refused, refusal, is_width}
use Rattle.code.specs.Word.{Codeword}
use Rattle.card.specs.Record.{record_size, width_of, word_of}
use Rattle.card.specs.Card.{LiesAt}
use Rattle.report.specs.declared.day.Reading.{Reading}
use Rattle.report.specs.Day.{has_record, slot_of, Day, sheet, no_sheet}
use Rattle.field.specs.declared.Question.{Question}
use Rattle.report.specs.declared.compare.Side.{Side}
use Rattle.report.specs.Compare.{choice, part_of}

-- the part r is the slot with the number n of the lent card: its bytes, and where they lie on it
pub record SlotPart (card : Bor (List ℕ)) (n : ℕ) (r : Bor (List ℕ)) : Type 0 where
  pub bytes : r.now ≡ slot_of card.now n
  pub lies : has_record card.now n ≡ true → LiesAt card ((n - 1) * record_size) r

-- the day that a reading stands for
abbrev pub day_in : Result Reading Question → Day
day_in (Ok x) = sheet x.changed x.symbols
day_in (Err q) = no_sheet (refusal q)

-- a record that has been restored: its word is a codeword
pub record Whole (r : List ℕ) : Type 0 where
  pub size : length r ≡ record_size
  pub width : is_width (width_of r) ≡ true
  pub codeword : Codeword (width_of r) (word_of r)

-- the outcome that a choice or a refusal stands for
abbrev pub choice_in : Result Side Question → Outcome
choice_in (Ok s) = choice s
choice_in (Err q) = refused (refusal q)

-- the part r of the outcome o is a slot of the lent cards x and y: its bytes, and where they lie on the card that was chosen
pub record PartFrom (o : Outcome) (x : Bor (List ℕ)) (i : ℕ) (y : Bor (List ℕ)) (j : ℕ) (r : Bor (List ℕ)) : Type 0 where
  pub bytes : r.now ≡ part_of o (slot_of x.now i) (slot_of y.now j)
  pub controller : o ≡ accepted 1 → has_record x.now i ≡ true → LiesAt x ((i - 1) * record_size) r
  pub cupboard : o ≡ accepted 2 → has_record y.now j ≡ true → LiesAt y ((j - 1) * record_size) r
