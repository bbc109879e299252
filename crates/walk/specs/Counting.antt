-- Restoring a card up to a longest reach and counting its slots, as a listing of the card as lent counts them: how far the counting has come
-- is a listing's progress. Assumes nothing.
use Rattle.std.specs.Prelude.{◌≡◌, cond, List, [], ◌∷◌, ◌++◌, ℕ, ◌+◌, ◌-◌, ◌*◌, ◌<◌, length}
use Rattle.field.specs.Question.{accepted, refused}
use Rattle.card.specs.declared.Progress.{Progress}
use Rattle.card.specs.Record.{record_size, most_changes, record_up_to}
use Rattle.card.specs.Slots.{record_count, record_at, is_blank, over_slots}
use Rattle.card.specs.Listing.{bytes_of, decimal, newline, part_progress, progress_up_to, start}
use Rattle.walk.specs.Restored.{restored_card, restored_up_to}

-- a card is restored up to the reach n, and its slots are counted
pub record CountsCard (n : ℕ) (s : Progress) (old : List ℕ) (r : Progress) (new : List ℕ) : Type 0 where
  pub content : new ≡ restored_up_to n old
  pub progress : r ≡ progress_up_to n s old

-- ---- blank slots

-- one more where the slot is blank
abbrev pub blank_counted : ℕ → List ℕ → ℕ
blank_counted n slot = n + cond (is_blank slot) 1 0

-- the blank slots of the card
abbrev pub blanks_of : List ℕ → ℕ
blanks_of card = over_slots blank_counted 0 card

-- all slots but the accepted and the refused records
abbrev pub blanks_counted : Progress → ℕ
blanks_counted s = s.next - 1 - s.totals.accepted - s.totals.refused

-- ---- the last line of a program that restores: records restored, places changed, records refused, blank slots

abbrev pub comma : ℕ
comma = 44

abbrev pub restored_line : Progress → List ℕ
restored_line s =
    bytes_of "restored " ++ (decimal s.totals.accepted ++ (comma
    ∷ bytes_of " changed " ++ (decimal s.totals.changed ++ (comma
    ∷ bytes_of " refused " ++ (decimal s.totals.refused ++ (comma
    ∷ bytes_of " blank " ++ (decimal (blanks_counted s) ++ (newline ∷ []))))))))

-- ---- what is asked of them; proofs/Restoring.antt and proofs/Tallying.antt prove it. A name that ends in UpTo says of restoring up to n what
-- the name before it says where each record gets its own r

-- accepted and refused records and blank slots make the slots of the card, and those that are counted blank are blank
pub record CountsMake (card : List ℕ) (s : Progress) : Type 0 where
  pub slots : s.next ≡ record_count (length card) + 1
  pub make : s.totals.accepted + s.totals.refused + blanks_of card ≡ record_count (length card)
  pub blank : blanks_counted s ≡ blanks_of card

abbrev pub SlotsCounted : Type 0
SlotsCounted = (card : List ℕ) → CountsMake card (part_progress start card)

abbrev pub SlotsCountedUpTo : Type 0
SlotsCountedUpTo = (n : ℕ) (card : List ℕ) → CountsMake card (progress_up_to n start card)

-- a card is restored part by part, the first of j whole slots
abbrev pub RestoredInParts : Type 0
RestoredInParts =
    (a b : List ℕ) (j : ℕ) → length a ≡ j * record_size → restored_card (a ++ b) ≡ restored_card a ++ restored_card b

abbrev pub RestoredInPartsUpTo : Type 0
RestoredInPartsUpTo =
    (n : ℕ) (a b : List ℕ) (j : ℕ) → length a ≡ j * record_size → restored_up_to n (a ++ b) ≡ restored_up_to n a ++ restored_up_to n b

-- restoring a restored card changes nothing
abbrev pub CardAgain : Type 0
CardAgain = (card : List ℕ) → restored_card (restored_card card) ≡ restored_card card

abbrev pub CardAgainUpTo : Type 0
CardAgainUpTo = (n : ℕ) (card : List ℕ) → restored_up_to n (restored_up_to n card) ≡ restored_up_to n card

-- up to n each record of the card is restored as with its own r, or it is refused and stays as it was
pub record CardSameOrStays (n : ℕ) (card : List ℕ) : Type 0 where
  pub size : length (restored_up_to n card) ≡ length card
  pub same : (i k : ℕ) → i < record_count (length card) → record_up_to n (record_at card i) ≡ accepted k
      → record_at (restored_up_to n card) i ≡ record_at (restored_card card) i
  pub stays : (i k : ℕ) → i < record_count (length card) → record_up_to n (record_at card i) ≡ refused k
      → record_at (restored_up_to n card) i ≡ record_at card i

-- a shorter reach restores no record of a card otherwise
abbrev pub CardNotOtherwise : Type 0
CardNotOtherwise = (n : ℕ) (card : List ℕ) → CardSameOrStays n card

-- up to two each record gets its own r
abbrev pub CardUpToTwo : Type 0
CardUpToTwo =
    (s : Progress) (card : List ℕ)
    → (restored_up_to most_changes card ≡ restored_card card) × (progress_up_to most_changes s card ≡ part_progress s card)
