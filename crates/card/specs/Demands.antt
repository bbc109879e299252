-- Demand 3 at a record, and what is asked of card check, blank slots and listing, as statements; proofs/Demands.antt proves each under its
-- name in small letters. Where a statement has an answer, a `Result` or an `Option`, it is about every call with that contract. Assumes nothing.
use Rattle.std.specs.Prelude.{None, Option, Some}
use Rattle.std.specs.Prelude.{Ok, Result}
use Rattle.field.specs.declared.Question.{Question}
use Rattle.std.specs.Prelude.{◌≡◌, ◌↔◌, ◌≢◌, ◌⊎◌, true, false, cond, List, [], ◌++◌, ℕ, ◌+◌, ◌*◌, ◌%◌, ◌≤◌, ◌<◌, min, length}
use Rattle.field.specs.Question.{accepted, refused}
use Rattle.code.specs.Word.{places}
use Rattle.code.specs.Near.{Near}
use Rattle.code.specs.Call.{repair}
use Rattle.code.specs.Demands.{Passes, PassesWithin, Nearest, TwoNear, SameErasures, AgreeOutside}
use Rattle.card.specs.declared.Progress.{Progress}
use Rattle.card.specs.Record.{record_size, width_of, word_of, erasures_of, record_asked, clear_record, reach_of, most_changes}
use Rattle.card.specs.Record.{RestoresRecordWithin, RestoresRecord}
use Rattle.card.specs.Slots.{record_count, record_at, is_blank, over_slots}
use Rattle.card.specs.Card.{check_of, first_refused, FirstBad, NoneBad, Checks}
use Rattle.card.specs.Listing.{part_lines, part_progress, total_line, more_line, most_records, listed_part, start, listing}

-- ---- demand 3 at a record

-- the record passes its own questions, length, 1, 3 and 4, and its word with its erasures those before question 8
pub record RecordPasses (r : List ℕ) : Type 0 where
  pub own : record_asked r ≡ (Ok tt)
  pub word : Passes (width_of r) (word_of r) (erasures_of r)

-- and with a reach
pub record RecordPassesWithin (r : List ℕ) (reach : ℕ) : Type 0 where
  pub own : record_asked r ≡ (Ok tt)
  pub word : PassesWithin (width_of r) (word_of r) (erasures_of r) reach

-- the record r holds the word c of the width m, and no erasures: byte 1 is 0, and the erasure bytes are 255
pub record HoldsWord (m : ℕ) (c r : List ℕ) : Type 0 where
  pub size : length c ≡ places m
  pub content : r ≡ clear_record m c

-- Of a call that was lent the record r, answered a and left u in its place: what demand 3 says of it at a reach. `passes` says that the
-- record passes the questions before question 8
pub record RecordDecoded (passes : Type 0) (r : List ℕ) (reach : ℕ) (a : Result ℕ Question) (u : List ℕ) : Type 0 where
  pub restored : (k : ℕ) (c : List ℕ)
      → ((repair a ≡ accepted k) × HoldsWord (width_of r) c u) ↔ (passes × Nearest (width_of r) (word_of r) (erasures_of r) reach c k)
  pub none-near : (repair a ≡ refused 7) ↔ (passes × ((c : List ℕ) → Near (width_of r) (erasures_of r) (word_of r) reach c → ⊥))
  pub several-near : (repair a ≡ refused 14) ↔ (passes × TwoNear (width_of r) (erasures_of r) (word_of r) reach)
  pub refused-unchanged : (n : ℕ) → repair a ≡ refused n → u ≡ r

-- every call that keeps the contract of the calls with a reach does so
abbrev pub RecordReachDecodes : Type 0
RecordReachDecodes =
    (r : List ℕ) (reach : ℕ) (a : Result ℕ Question) (u : List ℕ) → RestoresRecordWithin r reach a u
    → RecordDecoded (RecordPassesWithin r reach) r reach a u

-- and every one of the calls without a reach
abbrev pub RecordDecodes : Type 0
RecordDecodes = (r : List ℕ) (a : Result ℕ Question) (u : List ℕ) → RestoresRecord r a u → RecordDecoded (RecordPasses r) r (reach_of r) a u

-- a sentence each: k places are restored and the record ends with the word c, without erasures, exactly when it passes and c is the one
-- near codeword, with k its count
abbrev pub RecordAccepts : Type 0
RecordAccepts =
    (r : List ℕ) (a : Result ℕ Question) (u : List ℕ) → RestoresRecord r a u → (k : ℕ) (c : List ℕ)
    → ((repair a ≡ accepted k) × HoldsWord (width_of r) c u) ↔ (RecordPasses r × Nearest (width_of r) (word_of r) (erasures_of r) (reach_of r) c k)

-- refused with 7 exactly when it passes and no codeword is near
abbrev pub RecordRefusesSeven : Type 0
RecordRefusesSeven =
    (r : List ℕ) (a : Result ℕ Question) (u : List ℕ) → RestoresRecord r a u
    → (repair a ≡ refused 7) ↔ (RecordPasses r × ((c : List ℕ) → Near (width_of r) (erasures_of r) (word_of r) (reach_of r) c → ⊥))

-- a refused record is as it was, every byte
abbrev pub RecordUnchanged : Type 0
RecordUnchanged = (r : List ℕ) (a : Result ℕ Question) (u : List ℕ) → RestoresRecord r a u → (n : ℕ) → repair a ≡ refused n → u ≡ r

-- records of one width that pass their own questions and whose words agree outside the same erasures get the same answers and, if they
-- are accepted, end equal, every byte
abbrev pub SameRecord : Type 0
SameRecord =
    (r r' : List ℕ) (a a' : Result ℕ Question) (u u' : List ℕ) → RestoresRecord r a u → RestoresRecord r' a' u'
    → record_asked r ≡ (Ok tt) → record_asked r' ≡ (Ok tt) → width_of r ≡ width_of r'
    → SameErasures (erasures_of r) (erasures_of r') → AgreeOutside (erasures_of r) (word_of r) (word_of r')
    → (a ≡ a') × ((k : ℕ) → repair a ≡ accepted k → u ≡ u')

-- what is not 139 bytes is refused with 2, whatever the bytes are, and stays
abbrev pub PieceRefused : Type 0
PieceRefused =
    (r : List ℕ) (a : Result ℕ Question) (u : List ℕ) → RestoresRecord r a u → length r ≢ record_size → (repair a ≡ refused 2) × (u ≡ r)

-- a record that is accepted has at most two places changed
abbrev pub FewPlaces : Type 0
FewPlaces = (r : List ℕ) (a : Result ℕ Question) (u : List ℕ) → RestoresRecord r a u → (k : ℕ) → repair a ≡ accepted k → k ≤ most_changes

-- ---- blank slots

-- a blank slot taken as a record is refused with 1, and stays
abbrev pub BlankRefused : Type 0
BlankRefused =
    (r : List ℕ) (a : Result ℕ Question) (u : List ℕ) → RestoresRecord r a u → is_blank r ≡ true → (repair a ≡ refused 1) × (u ≡ r)

-- a shorter last piece is never blank, whatever its bytes are
abbrev pub ShortNotBlank : Type 0
ShortNotBlank = (slot : List ℕ) → length slot < record_size → is_blank slot ≡ false

-- ---- the card check: x is what a call with its contract answers

-- the number k is given exactly when record k is the lowest that would be refused: every record before it would be accepted or is blank
abbrev pub LowestRefused : Type 0
LowestRefused = (card : List ℕ) (x : Option ℕ) → check_of x ≡ first_refused card → (k : ℕ) → (x ≡ Some k) ↔ FirstBad card k

-- the card passes exactly when no record would be refused
abbrev pub NoneRefused : Type 0
NoneRefused = (card : List ℕ) (x : Option ℕ) → check_of x ≡ first_refused card → (x ≡ None) ↔ NoneBad card

-- document 01's card check, which leaves the choice of the number open, is kept too
abbrev pub CheckKept : Type 0
CheckKept = (card : List ℕ) (x : Option ℕ) → check_of x ≡ first_refused card → Checks card (check_of x)

-- a slot to pass over: it is blank, or its record passes and one codeword alone is near
pub record OneNear (r : List ℕ) : Type 0 where
  pub passes : RecordPasses r
  pub codeword : List ℕ
  pub changed : ℕ
  pub nearest : Nearest (width_of r) (word_of r) (erasures_of r) (reach_of r) codeword changed

-- demand 3 at each record of a card: it passes exactly when every slot is blank or has a record that passes with one near codeword
abbrev pub CardDecodes : Type 0
CardDecodes =
    (card : List ℕ) (x : Option ℕ) → check_of x ≡ first_refused card
    → (x ≡ None) ↔ ((i : ℕ) → i < record_count (length card) → (is_blank (record_at card i) ≡ true) ⊎ OneNear (record_at card i))

-- an empty card passes
abbrev pub EmptyPasses : Type 0
EmptyPasses = (x : Option ℕ) → check_of x ≡ first_refused [] → x ≡ None

-- a card with a shorter last piece does not, even where the bytes of that piece are all 255
abbrev pub PieceFails : Type 0
PieceFails = (card : List ℕ) (x : Option ℕ) → check_of x ≡ first_refused card → length card % record_size ≢ 0 → x ≢ None

-- ---- the listing

-- the blank slots of a part
abbrev pub blanks_in : List ℕ → ℕ
blanks_in part = over_slots (λ n slot. cond (is_blank slot) (n + 1) n) 0 part

-- what a listing has counted at its end
abbrev pub listed_to : List ℕ → Progress
listed_to card = part_progress start (listed_part card)

-- blank slots are numbered and count among the 1,000,000, and enter none of the totals: accepted, refused and blank make the slots
abbrev pub SlotsListed : Type 0
SlotsListed =
    (card : List ℕ)
    → ((listed_to card).next ≡ 1 + min most_records (record_count (length card)))
    × ((listed_to card).totals.accepted + (listed_to card).totals.refused + blanks_in (listed_part card) ≡ min most_records (record_count (length card)))

-- the sum of changed places in the last line is at most 2,000,000
abbrev pub SumMost : Type 0
SumMost = (card : List ℕ) → (listed_to card).totals.changed ≤ 2000000

-- the listing of two parts, the first of whole slots, is that of the first, and behind it that of the second from where the first has come to
abbrev pub ListedInParts : Type 0
ListedInParts =
    (a b : List ℕ) (j : ℕ) → length a ≡ j * record_size → (s : Progress)
    → (part_lines s (a ++ b) ≡ part_lines s a ++ part_lines (part_progress s a) b)
    × (part_progress s (a ++ b) ≡ part_progress (part_progress s a) b)

-- the listing of a card of at most 1,000,000 slots, and of one that goes on with b behind them
abbrev pub ListedShort : Type 0
ListedShort =
    (card : List ℕ) → length card ≤ most_records * record_size
    → listing card ≡ part_lines start card ++ total_line (part_progress start card).totals

abbrev pub ListedLong : Type 0
ListedLong =
    (a b : List ℕ) → length a ≡ most_records * record_size → 0 < length b
    → listing (a ++ b) ≡ part_lines start a ++ (more_line ++ total_line (part_progress start a).totals)

-- a card may come in parts, whatever is carried from slot to slot
abbrev pub SlotsInParts : Type 1
SlotsInParts =
    (A : Type 0) (step : A → List ℕ → A) (a b : List ℕ) (j : ℕ) → length a ≡ j * record_size → (s : A)
    → over_slots step s (a ++ b) ≡ over_slots step (over_slots step s a) b
