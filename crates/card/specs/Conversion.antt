-- Old cards into new, new into old: document 02's request (f). k and j are the erasure bytes of a record in the card and in the output.
-- Assumes nothing.
use Rattle.std.specs.Prelude.{Ok}
use Rattle.field.specs.Question.{Verdict}
use Rattle.std.specs.Prelude.{◌≡◌, Bool, true, false, ◌&&◌, ◌||◌, List, [], ◌++◌, ℕ, ◌-◌, ◌*◌, ◌%◌, ◌<◌, min, eqb, leb, length, take, drop, replicate}
use Rattle.field.specs.Question.{Outcome, accepted, ask, after}
use Rattle.field.specs.declared.Question.TheVariants.{Width, Length, ErasureCount, Padding, FourErasures}
use Rattle.code.specs.Call.{written, done, restore_of}
use Rattle.card.specs.Record.{header_of, size_of, width_of, count_of, erasures_of, word_in, has_width, few_in, padded_in, asked_in}
use Rattle.card.specs.Record.{erasure_bytes, record_of}
use Rattle.card.specs.Slots.{slot_in, blank_in, slot_count, over_whole, appended}

-- the old edition has four erasure bytes
abbrev pub old_erasure_bytes : ℕ
old_erasure_bytes = 4

-- ---- what is written

-- a record in the other edition: the bytes of its header that both have, an added erasure byte of 255 or none, and what follows the header.
-- A blank slot becomes a blank slot by the same rule
unfoldable pub converted : ℕ → ℕ → List ℕ → List ℕ
converted k j r = take (header_of (min k j)) r ++ (replicate (j - k) 255 ++ drop (header_of k) r)

-- the whole card
abbrev pub converted_card : ℕ → ℕ → List ℕ → List ℕ
converted_card k j card = over_whole k (appended (converted k j)) [] card

-- ---- what is asked

-- a card of n bytes is whole slots, and an output of m bytes has as many slots of its edition
abbrev pub lengths_fit : ℕ → ℕ → ℕ → ℕ → Bool
lengths_fit k j n m = eqb (n % size_of k) 0 && eqb m (slot_count k n * size_of j)

-- a question, put to a slot: a blank one is asked nothing
abbrev pub blank_or : ℕ → (List ℕ → Bool) → List ℕ → Bool
blank_or k p slot = blank_in k slot || p slot

-- and to all slots before it
abbrev pub also_to : ℕ → (List ℕ → Bool) → Bool → List ℕ → Bool
also_to k p b slot = b && blank_or k p slot

-- a question, put to all slots of the card
abbrev pub every_record : ℕ → (List ℕ → Bool) → List ℕ → Bool
every_record k p card = over_whole k (also_to k p) true card

-- at most four erasures
abbrev pub at_most_four : List ℕ → Bool
at_most_four r = leb (count_of r) old_erasure_bytes

-- the lengths, then questions 1, 3 and 4 of the record's own edition, each put to all records before the next; then the next question
abbrev pub card_asked : ℕ → ℕ → List ℕ → ℕ → Verdict → Verdict
card_asked k j card m next =
    ask (lengths_fit k j (length card) m) Length
    (ask (every_record k has_width card) Width
    (ask (every_record k (few_in k) card) ErasureCount
    (ask (every_record k (padded_in k) card) Padding next)))

-- question 15
abbrev pub four_asked : ℕ → List ℕ → Verdict
four_asked k card = ask (every_record k at_most_four card) FourErasures (Ok tt)

-- a call's promise, where the questions gave a verdict: what it answers and leaves in the output
pub record Converts (k j : ℕ) (asked : Verdict) (card old : List ℕ) (v : Verdict) (new : List ℕ) : Type 0 where
  pub answer : done v ≡ done asked
  pub output : new ≡ written asked old (converted_card k j card)

-- ---- old to new

-- the questions, put to a card and an output of m bytes
unfoldable pub to_new_asked : List ℕ → ℕ → Verdict
to_new_asked card m = card_asked old_erasure_bytes erasure_bytes card m (Ok tt)

-- what the call answers
abbrev pub to_new_of : List ℕ → List ℕ → Outcome
to_new_of card out = done (to_new_asked card (length out))

-- the output after the call
abbrev pub to_new_written : List ℕ → List ℕ → List ℕ
to_new_written card out = written (to_new_asked card (length out)) out (converted_card old_erasure_bytes erasure_bytes card)

-- ---- new to old: question 15 too

unfoldable pub to_old_asked : List ℕ → ℕ → Verdict
to_old_asked card m = card_asked erasure_bytes old_erasure_bytes card m (four_asked erasure_bytes card)

abbrev pub to_old_of : List ℕ → List ℕ → Outcome
to_old_of card out = done (to_old_asked card (length out))

abbrev pub to_old_written : List ℕ → List ℕ → List ℕ
to_old_written card out = written (to_old_asked card (length out)) out (converted_card erasure_bytes old_erasure_bytes card)

-- ---- what is asked of them; proofs/ThereAndBack.antt proves it

-- there and back: an old card that is accepted comes back from the new one byte by byte, and the way back is accepted
abbrev pub ThereAndBack : Type 0
ThereAndBack =
    (card out back : List ℕ) → to_new_of card out ≡ accepted 0 → length back ≡ length card
    → (to_old_of (to_new_written card out) back ≡ accepted 0) × (to_old_written (to_new_written card out) back ≡ card)

-- back and there: so does a new card from the old one
abbrev pub BackAndThere : Type 0
BackAndThere =
    (card out again : List ℕ) → to_old_of card out ≡ accepted 0 → length again ≡ length card
    → (to_new_of (to_old_written card out) again ≡ accepted 0) × (to_new_written (to_old_written card out) again ≡ card)

-- what restoring a record of an edition answers: today's is `record_of`
abbrev pub outcome_in : ℕ → List ℕ → Outcome
outcome_in k r = after (asked_in k r) (restore_of (width_of r) (word_in k r) (erasures_of r))

-- the slot r of the old edition and the slot s of the new one: both are blank, or neither is; width, word and erasures are the same, and so
-- is what restoring answers
pub record SameSlot (r s : List ℕ) : Type 0 where
  pub blank : blank_in erasure_bytes s ≡ blank_in old_erasure_bytes r
  pub width : width_of s ≡ width_of r
  pub word : word_in erasure_bytes s ≡ word_in old_erasure_bytes r
  pub erasures : blank_in old_erasure_bytes r ≡ false → erasures_of s ≡ erasures_of r
  pub outcome : record_of s ≡ outcome_in old_erasure_bytes r

-- each slot of a card that is accepted, and its conversion
abbrev pub SameSlots : List ℕ → List ℕ → Type 0
SameSlots old new =
    (i : ℕ) → i < slot_count old_erasure_bytes (length old) → SameSlot (slot_in old_erasure_bytes old i) (slot_in erasure_bytes new i)

abbrev pub NewSame : Type 0
NewSame = (card out : List ℕ) → to_new_of card out ≡ accepted 0 → SameSlots card (to_new_written card out)

abbrev pub OldSame : Type 0
OldSame = (card out : List ℕ) → to_old_of card out ≡ accepted 0 → SameSlots (to_old_written card out) card
