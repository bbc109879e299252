-- A record: width, number of erasures, erasures, symbols, and zeros up to the record's length. Assumes nothing.
use Rattle.field.specs.declared.Question.{Question}
use Rattle.std.specs.Prelude.{Ok, Err, Result, ◌≡◌, Bool, true, ◌&&◌, List, [], ◌∷◌, ◌++◌, ℕ, ◌+◌, ◌-◌, min, eqb, leb, length, get_or, take, drop, replicate}
use Rattle.field.specs.Question.{Verdict, Outcome, accepted, refused, ask, after, is_width}
use Rattle.field.specs.declared.Question.TheVariants.{Width, Length, ErasureCount, Padding}
use Rattle.code.specs.Word.{places, longest}
use Rattle.code.specs.Near.{radius}
use Rattle.code.specs.Call.{max_erasures, within_of, within_written, repair}
use Rattle.card.specs.declared.RestoredCopy.{RestoredCopy}

-- ---- the layout, with k erasure bytes, document 01's mark bytes

-- byte 0 is the width, byte 1 the number of erasures; then come the erasure bytes, and at this byte the symbols start
abbrev pub header_of : ℕ → ℕ
header_of k = 2 + k

-- the number of bytes of a record
abbrev pub size_of : ℕ → ℕ
size_of k = header_of k + longest

-- the width, byte 0
abbrev pub width_of : List ℕ → ℕ
width_of r = get_or r 0 0

-- the number of erasures, byte 1
abbrev pub count_of : List ℕ → ℕ
count_of r = get_or r 1 0

-- the erasures, the first of the erasure bytes
abbrev pub erasures_of : List ℕ → List ℕ
erasures_of r = take (count_of r) (drop 2 r)

-- the erasure bytes that are not used
abbrev pub unused_in : ℕ → List ℕ → List ℕ
unused_in k r = take (k - count_of r) (drop (2 + count_of r) r)

-- the symbols
abbrev pub word_in : ℕ → List ℕ → List ℕ
word_in k r = take (places (width_of r)) (drop (header_of k) r)

-- the rest, behind the last symbol
abbrev pub tail_in : ℕ → List ℕ → List ℕ
tail_in k r = drop (header_of k + places (width_of r)) r

-- question 3's bound: there are no more erasures than bytes for them
abbrev pub allowed_in : ℕ → List ℕ → ℕ
allowed_in k r = min k (max_erasures (width_of r))

-- every entry is x
abbrev pub all_are : ℕ → List ℕ → Bool
all_are x [] = true
all_are x (y ∷ ys) = eqb y x && all_are x ys

-- question 1
abbrev pub has_width : List ℕ → Bool
has_width r = is_width (width_of r)

-- question 3
abbrev pub few_in : ℕ → List ℕ → Bool
few_in k r = leb (count_of r) (allowed_in k r)

-- question 4: are the unused erasure bytes 255, and is the tail 0?
abbrev pub padded_in : ℕ → List ℕ → Bool
padded_in k r = all_are 255 (unused_in k r) && all_are 0 (tail_in k r)

-- a record's length is asked first, then questions 1, 3 and 4
unfoldable pub asked_in : ℕ → List ℕ → Verdict
asked_in k r =
    ask (eqb (length r) (size_of k)) Length
    (ask (has_width r) Width
    (ask (few_in k r) ErasureCount
    (ask (padded_in k r) Padding (Ok tt))))

-- ---- today's edition

-- five erasure bytes
abbrev pub erasure_bytes : ℕ
erasure_bytes = 5

abbrev pub record_size : ℕ
record_size = size_of erasure_bytes

abbrev pub word_of : List ℕ → List ℕ
word_of r = word_in erasure_bytes r

-- ---- restoring a record with a reach: its own questions, then those that are put to its word

abbrev pub record_asked : List ℕ → Verdict
record_asked r = asked_in erasure_bytes r

-- what restoring the record answers at a reach
unfoldable pub record_within_of : List ℕ → ℕ → Outcome
record_within_of r reach = after (record_asked r) (within_of (width_of r) (word_of r) (erasures_of r) reach)

-- no more places of a record are changed
abbrev pub most_changes : ℕ
most_changes = 2

-- a record of the width m that holds the codeword c and has no erasures
abbrev pub clear_record : ℕ → List ℕ → List ℕ
clear_record m c = (m ∷ 0 ∷ replicate erasure_bytes 255) ++ (c ++ replicate (longest - length c) 0)

-- what is written where the record is accepted; a refused one stays as it was
abbrev pub on_accept : Outcome → List ℕ → List ℕ → List ℕ
on_accept (accepted k) old new = new
on_accept (refused n) old new = old

-- the record after the call
unfoldable pub record_within_written : List ℕ → ℕ → List ℕ
record_within_written r reach =
    on_accept (record_within_of r reach) r (clear_record (width_of r) (within_written (width_of r) (word_of r) (erasures_of r) reach))

-- what restore_record_within answers and leaves in the record
pub record RestoresRecordWithin (old : List ℕ) (reach : ℕ) (r : Result ℕ Question) (new : List ℕ) : Type 0 where
  pub answer : repair r ≡ record_within_of old reach
  pub content : new ≡ record_within_written old reach

-- ---- who names no reach gets r

abbrev pub reach_of : List ℕ → ℕ
reach_of r = radius (width_of r) (length (erasures_of r))

-- what restoring the record answers
unfoldable pub record_of : List ℕ → Outcome
record_of r = record_within_of r (reach_of r)

-- the record after the call
unfoldable pub record_written : List ℕ → List ℕ
record_written r = record_within_written r (reach_of r)

-- what restore_record answers and leaves in the record
pub record RestoresRecord (old : List ℕ) (r : Result ℕ Question) (new : List ℕ) : Type 0 where
  pub answer : repair r ≡ record_of old
  pub content : new ≡ record_written old

-- ---- who names a longest reach n gets n or r, whichever is shorter; proofs/Reaches.antt proves what is stated here

abbrev pub reach_up_to : ℕ → List ℕ → ℕ
reach_up_to n r = min n (reach_of r)

-- what restoring the record up to n answers
unfoldable pub record_up_to : ℕ → List ℕ → Outcome
record_up_to n r = record_within_of r (reach_up_to n r)

-- the record after the call
unfoldable pub record_written_up_to : ℕ → List ℕ → List ℕ
record_written_up_to n r = record_within_written r (reach_up_to n r)

-- the call's promise: what restore_record_up_to answers and leaves in the record
pub record RestoresRecordUpTo (n : ℕ) (old : List ℕ) (r : Result ℕ Question) (new : List ℕ) : Type 0 where
  pub answer : repair r ≡ record_up_to n old
  pub content : new ≡ record_written_up_to n old

-- up to n the record is restored as with its own r, or it is refused and stays as it was
pub record SameOrStays (n : ℕ) (r : List ℕ) : Type 0 where
  pub same : (k : ℕ) → record_up_to n r ≡ accepted k → (record_of r ≡ accepted k) × (record_written_up_to n r ≡ record_written r)
  pub stays : (k : ℕ) → record_up_to n r ≡ refused k → record_written_up_to n r ≡ r

-- a shorter reach restores no record otherwise
abbrev pub NotOtherwise : Type 0
NotOtherwise = (n : ℕ) (r : List ℕ) → SameOrStays n r

-- up to two every record gets its own r
abbrev pub UpToTwo : Type 0
UpToTwo = (r : List ℕ) → (record_up_to most_changes r ≡ record_of r) × (record_written_up_to most_changes r ≡ record_written r)

-- ---- a record restored in a copy

-- the copy: the record after the call, and zeros where it is refused
unfoldable pub copy_written : List ℕ → List ℕ
copy_written r = on_accept (record_of r) (replicate record_size 0) (record_written r)

-- the number of changed places, or the refusal, of a record restored in a copy
abbrev pub copy_changes : Result RestoredCopy Question → Result ℕ Question
copy_changes (Ok x) = Ok x.changed
copy_changes (Err q) = Err q

-- its bytes, zeros where it is refused
abbrev pub copy_bytes : Result RestoredCopy Question → List ℕ
copy_bytes (Ok x) = x.bytes
copy_bytes (Err q) = replicate record_size 0

-- what restored_copy gives
pub record RestoresCopy (r : List ℕ) (x : Result RestoredCopy Question) : Type 0 where
  pub answer : repair (copy_changes x) ≡ record_of r
  pub content : copy_bytes x ≡ copy_written r
