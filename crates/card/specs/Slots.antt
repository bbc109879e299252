-- The slots of a card, whether one is blank, one fold over them, and from batch to batch. A part of a card is a row of slots without a header;
-- k is the number of erasure bytes of a record. Assumes nothing.
use Rattle.std.specs.Prelude.{◌≡◌, Bool, true, ◌&&◌, List, ◌++◌, ℕ, zero, suc, ◌+◌, ◌-◌, ◌*◌, ◌/◌, ◌≤◌, eqb, length, take, drop}
use Rattle.card.specs.Record.{size_of, erasure_bytes, record_size, all_are}

-- ---- slots

-- slot i of a part, counted from 0: its record, or blank; the last may be shorter
abbrev pub slot_in : ℕ → List ℕ → ℕ → List ℕ
slot_in k part i = take (size_of k) (drop (i * size_of k) part)

-- is the slot blank, never written? Only a whole slot can be
unfoldable pub blank_in : ℕ → List ℕ → Bool
blank_in k slot = eqb (length slot) (size_of k) && all_are 255 slot

-- the whole slots among n bytes
abbrev pub slot_count : ℕ → ℕ → ℕ
slot_count k n = n / size_of k

-- the same in today's edition
abbrev pub record_at : List ℕ → ℕ → List ℕ
record_at part i = slot_in erasure_bytes part i

abbrev pub is_blank : List ℕ → Bool
is_blank slot = blank_in erasure_bytes slot

-- the number of slots of n bytes, and so of their records, blank slots counted; a shorter last piece counts as a record
abbrev pub record_count : ℕ → ℕ
record_count n = (n + (record_size - 1)) / record_size

-- ---- one fold over them, whatever is carried; that a card may come in parts is `in_parts` of proofs/Folding.antt

-- what s becomes, slot by slot, with the first n slots of a part
unfoldable pub over_first : {A : Type 0} → ℕ → (A → List ℕ → A) → A → List ℕ → ℕ → A
over_first k step s part zero = s
over_first k step s part (suc n) = step (over_first k step s part n) (slot_in k part n)

-- with all slots of a part of today's edition, the last of which may be shorter
abbrev pub over_slots : {A : Type 0} → (A → List ℕ → A) → A → List ℕ → A
over_slots step s part = over_first erasure_bytes step s part (record_count (length part))

-- with the whole slots of a part; a piece of a slot behind them is left out
abbrev pub over_whole : {A : Type 0} → ℕ → (A → List ℕ → A) → A → List ℕ → A
over_whole k step s part = over_first k step s part (slot_count k (length part))

-- a step: what f makes of the slot is put behind what there is
abbrev pub appended : (List ℕ → List ℕ) → List ℕ → List ℕ → List ℕ
appended f xs slot = xs ++ f slot

-- ---- from batch to batch

-- over some bytes, n of them at most, and just n where the card may go on, s has become u
pub record Came {A : Type 0} (over : A → List ℕ → A) (n : ℕ) (s u : A) (going : Bool) : Type 0 where
  pub bytes : List ℕ
  pub content : u ≡ over s bytes
  pub most : length bytes ≤ n
  pub full : going ≡ true → length bytes ≡ n
