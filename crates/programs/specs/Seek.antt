-- The number of a record in an argument, and the slot with that number. Assumes nothing.
use Rattle.std.specs.Prelude.{◌≡◌, Bool, true, false, cond, ◌&&◌, List, [], ◌∷◌, Option, None, Some, ◌⊎◌, ℕ, zero, suc, ◌+◌, ◌-◌, ◌*◌, ◌<◌, leb, length}
use Rattle.card.specs.Record.{record_size}
use Rattle.card.specs.Card.{record_numbered}
use Rattle.card_csv.specs.Reading.{is_digit}
use Rattle.programs.specs.declared.input.Input.{Input}
use Rattle.programs.specs.Stream.{has_ended}

-- ---- the number of a record in an argument

-- no digit is taken behind a larger number
abbrev pub most_before : ℕ
most_before = 100000000000000

-- the byte is a digit, and may stand behind the number v
abbrev pub takes_digit : ℕ → ℕ → Bool
takes_digit v b = is_digit b && leb v most_before

-- the number that the digits say behind v; none where a byte is no digit, or they are too many
unfoldable pub number_from : ℕ → List ℕ → Option ℕ
number_from v [] = Some v
number_from v (b ∷ bs) = cond (takes_digit v b) (number_from (v * 10 + (b - 48)) bs) None

-- a number from 1 on, since records are counted from 1
abbrev pub from_one : Option ℕ → Option ℕ
from_one None = None
from_one (Some zero) = None
from_one (Some (suc n)) = Some (suc n)

-- the number of a record that an argument names
abbrev pub number_in : List ℕ → Option ℕ
number_in text = from_one (number_from 0 text)

-- ---- the slot

-- the slot is that with the number n of some card, as long as what was read without a failure; a short one only where the input has ended
pub record FindsSlot (n : ℕ) (i : Input) (slot : List ℕ) : Type 0 where
  pub card : List ℕ
  pub read : i.read ≡ length card
  pub well : i.failed ≡ false
  pub is : slot ≡ record_numbered card n
  pub some : 0 < length slot
  pub whole : (length slot ≡ record_size) ⊎ (has_ended i ≡ true)
