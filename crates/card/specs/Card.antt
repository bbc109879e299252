-- A card by the numbers of its records, and the card check. Assumes nothing.
use Rattle.std.specs.Prelude.{None, Option, Some}
use Rattle.std.specs.Prelude.{◌≡◌, Bool, true, false, cond, ◌&&◌, ◌||◌, List, ℕ, ◌+◌, ◌-◌, ◌≤◌, ◌<◌, leb, length}
use Rattle.std.specs.Borrow.{Bor}
use Rattle.field.specs.Question.{Outcome, accepted, refused}
use Rattle.card.specs.Record.{record_of}
use Rattle.card.specs.Slots.{record_count, record_at, is_blank, over_slots}

-- the part r lies in the lent card itself, from its byte a on: in the card's own memory, not in a copy of it
pub record LiesAt (card : Bor (List ℕ)) (a : ℕ) (r : Bor (List ℕ)) : Type 0 where
  pub block : r.ref_ptr.0 ≡ card.ref_ptr.0
  pub place : r.ref_ptr.1 ≡ card.ref_ptr.1 + a

-- is the number 1 to n?
unfoldable pub is_number : ℕ → ℕ → Bool
is_number n number = leb 1 number && leb number n

-- the record of that number, counted from 1
abbrev pub record_numbered : List ℕ → ℕ → List ℕ
record_numbered card number = record_at card (number - 1)

-- is the outcome an acceptance?
abbrev pub is_accepted : Outcome → Bool
is_accepted (accepted k) = true
is_accepted (refused n) = false

-- would the record be accepted?
abbrev pub passes : List ℕ → Bool
passes r = is_accepted (record_of r)

-- is the slot nothing to complain of? It is blank, or its record would be accepted
abbrev pub fine : List ℕ → Bool
fine slot = is_blank slot || passes slot

-- what a card check says, in document 01's terms: every record would be accepted, or the number of one that would not be, counted from 1
pub data Check : Type 0 where
  no_bad : Check
  bad : ℕ → Check

-- by the cases of the program's answer
abbrev pub check_of : (Option ℕ) → Check
check_of None = no_bad
check_of (Some k) = bad k

-- the search for the first slot that is not fine: so many are passed, or it is named, by its number, counted from 1, and with its bytes
pub data Search : Type 0 where
  passed : ℕ → Search
  named : ℕ → List ℕ → Search

-- with one slot more; behind the slot that is named nothing is looked at
abbrev pub sought : Search → List ℕ → Search
sought (passed n) slot = cond (fine slot) (passed (n + 1)) (named (n + 1) slot)
sought (named n r) slot = named n r

-- over a part, where so many slots stand before it
abbrev pub searched : ℕ → List ℕ → Search
searched before part = over_slots sought (passed before) part

abbrev pub answer : Search → Check
answer (passed n) = no_bad
answer (named n r) = bad n

-- what the card check says: the lowest number of a record that would be refused, if there is one
abbrev pub first_refused : List ℕ → Check
first_refused card = answer (searched 0 card)

-- ---- what the answer says; proofs/Checking.antt proves it

-- record k, counted from 1, would be refused, and every record before it would be accepted or is blank
pub record FirstBad (card : List ℕ) (k : ℕ) : Type 0 where
  pub number : 1 ≤ k
  pub inside : k ≤ record_count (length card)
  pub refused : fine (record_at card (k - 1)) ≡ false
  pub before : (j : ℕ) → j < k - 1 → fine (record_at card j) ≡ true

-- no record would be refused
abbrev pub NoneBad : List ℕ → Type 0
NoneBad card = (i : ℕ) → i < record_count (length card) → fine (record_at card i) ≡ true

-- document 01's card check, which leaves open which of the records that would be refused is named
abbrev pub Checks : List ℕ → Check → Type 0
Checks card no_bad = NoneBad card
Checks card (bad k) = (1 ≤ k) × (k ≤ record_count (length card)) × (fine (record_at card (k - 1)) ≡ false)
