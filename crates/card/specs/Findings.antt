-- The questions of a conversion, put to a card that comes in parts. Each part is whole slots; behind the last there may be a piece of a slot.
-- k and j are the erasure bytes of a record in the card and in the output. Assumes nothing.
use Rattle.std.specs.Prelude.{Ok}
use Rattle.field.specs.Question.{Verdict}
use Rattle.std.specs.Prelude.{◌≡◌, Bool, true, false, cond, List, ◌++◌, ℕ, ◌+◌, ◌-◌, ◌*◌, ◌%◌, ◌≤◌, ◌<◌, eqb, ltb, length, get_or}
use Rattle.field.specs.Question.{ask}
use Rattle.field.specs.declared.Question.TheVariants.{Length}
use Rattle.card.specs.declared.parts.Findings.{Findings}
use Rattle.card.specs.Record.{size_of, erasure_bytes}
use Rattle.card.specs.Slots.{slot_in, slot_count, over_whole}
use Rattle.card.specs.Conversion.{old_erasure_bytes, converted_card, blank_or, at_most_four, to_new_asked, to_old_asked}
use Rattle.card.specs.Leading.{answers, slot_passes, verdict_at}

-- before the first slot
abbrev pub nothing_found : Findings
nothing_found = record { slots = 0; passed = 4; first = 0 }

-- one slot more: its number, counted from 1, is noted where it passes fewer questions than each slot before it
unfoldable pub slot_found : ℕ → Findings → List ℕ → Findings
slot_found k s slot =
    cond (ltb (slot_passes k slot) s.passed)
    (record { slots = s.slots + 1; passed = slot_passes k slot; first = s.slots + 1 })
    (record { slots = s.slots + 1; passed = s.passed; first = s.first })

-- all slots of a part; a piece of a slot behind them is left out
abbrev pub part_found : ℕ → Findings → List ℕ → Findings
part_found k s part = over_whole k (slot_found k) s part

-- the verdict on a card, and the number of its first offending record: behind its slots a piece of so many bytes is left
abbrev pub found_verdict : Findings → ℕ → Verdict
found_verdict s rest = ask (eqb rest 0) Length (verdict_at s.passed)

abbrev pub found_number : Findings → ℕ → ℕ
found_number s rest = cond (eqb rest 0) s.first (s.slots + 1)

-- ---- what is asked of them; proofs/Findings.antt proves it

-- the card may be cut behind any slot
abbrev pub FoundInParts : Type 0
FoundInParts =
    (k : ℕ) (s : Findings) (a b : List ℕ) → length a % size_of k ≡ 0 → part_found k s (a ++ b) ≡ part_found k (part_found k s a) b

-- the verdict is the conversion's, with an output of the right length
abbrev pub VerdictIs : ℕ → ℕ → (List ℕ → ℕ → Verdict) → Type 0
VerdictIs k j asked =
    (card : List ℕ) → found_verdict (part_found k nothing_found card) (length card % size_of k) ≡ asked card (slot_count k (length card) * size_of j)

-- the answer of a slot to the question a: 0 to 3 are questions 1, 3, 4 and 15
abbrev pub slot_answer : ℕ → ℕ → List ℕ → Bool
slot_answer k a slot = get_or (answers k at_most_four (λ p. blank_or k p slot)) a true

-- the record of this number is the first that the question a refuses, and the questions before it refuse none
pub record FirstOffender (k : ℕ) (card : List ℕ) (a number : ℕ) : Type 0 where
  pub low : 1 ≤ number
  pub inside : number ≤ slot_count k (length card)
  pub refused : slot_answer k a (slot_in k card (number - 1)) ≡ false
  pub before : (i : ℕ) → i < number - 1 → slot_answer k a (slot_in k card i) ≡ true
  pub earlier : (b : ℕ) → b < a → (i : ℕ) → i < slot_count k (length card) → slot_answer k b (slot_in k card i) ≡ true

-- the number is that of the first offending record, and 0 where there is none
abbrev pub NumberIs : Type 0
NumberIs =
    (k : ℕ) (card : List ℕ)
    → ((part_found k nothing_found card).passed < 4
    → FirstOffender k card (part_found k nothing_found card).passed (part_found k nothing_found card).first)
    × ((part_found k nothing_found card).passed ≡ 4 → (part_found k nothing_found card).first ≡ 0)

-- where the whole card passes, so does each part, and their conversions, one behind the other, are that of the card
pub record PartsPass (k j : ℕ) (asked : List ℕ → ℕ → Verdict) (a b : List ℕ) : Type 0 where
  pub front : asked a (slot_count k (length a) * size_of j) ≡ (Ok tt)
  pub behind : asked b (slot_count k (length b) * size_of j) ≡ (Ok tt)
  pub both : converted_card k j (a ++ b) ≡ converted_card k j a ++ converted_card k j b

abbrev pub ConvertsInParts : ℕ → ℕ → (List ℕ → ℕ → Verdict) → Type 0
ConvertsInParts k j asked =
    (a b : List ℕ) (m : ℕ) → length a % size_of k ≡ 0 → asked (a ++ b) m ≡ (Ok tt) → PartsPass k j asked a b

-- old to new, and new to old
abbrev pub ToNewInParts : Type 0
ToNewInParts = VerdictIs old_erasure_bytes erasure_bytes to_new_asked × ConvertsInParts old_erasure_bytes erasure_bytes to_new_asked

abbrev pub ToOldInParts : Type 0
ToOldInParts = VerdictIs erasure_bytes old_erasure_bytes to_old_asked × ConvertsInParts erasure_bytes old_erasure_bytes to_old_asked
