-- The text of a listing of a card. Assumes nothing.
use Rattle.std.specs.Prelude.{cond, List, [], ◌∷◌, ◌++◌, ℕ, zero, suc, ◌+◌, ◌/◌, ◌%◌, ◌*◌, ltb, length, take, get_or}
use Prim.Native.Char.{code}
use Prim.Native.String.{String, [] as none, ◌∷◌ as ◌then◌}
use Rattle.field.specs.Question.{Outcome, accepted, refused}
use Rattle.card.specs.declared.Totals.{Totals}
use Rattle.card.specs.declared.Progress.{Progress}
use Rattle.card.specs.Record.{record_size, record_of, record_up_to}
use Rattle.card.specs.Slots.{is_blank, over_slots}

-- the bytes of a text in ASCII
abbrev pub bytes_of : String → List ℕ
bytes_of none = []
bytes_of (c then s) = code c ∷ bytes_of s

-- the decimal digits of n as text, without leading zeros; the first argument bounds their number
unfoldable pub digits_from : ℕ → ℕ → List ℕ
digits_from zero n = []
digits_from (suc k) n = cond (ltb n 10) ((48 + n) ∷ []) (digits_from k (n / 10) ++ ((48 + n % 10) ∷ []))

-- every number of 64 bits has at most 20 digits
abbrev pub decimal : ℕ → List ℕ
decimal n = digits_from 20 n

-- the byte between two fields, and the one that ends a line
abbrev pub space : ℕ
space = 32

abbrev pub newline : ℕ
newline = 10

-- the refusal number, 0 where the record is accepted
abbrev pub refusal_of : Outcome → ℕ
refusal_of (accepted k) = 0
refusal_of (refused n) = n

-- the number of changed places, 0 where the record is refused
abbrev pub changes_of : Outcome → ℕ
changes_of (accepted k) = k
changes_of (refused n) = 0

-- four numbers in a line: record number, byte 0, refusal number, changed places
abbrev pub line_text : ℕ → ℕ → ℕ → ℕ → List ℕ
line_text n w r k = decimal n ++ (space ∷ decimal w ++ (space ∷ decimal r ++ (space ∷ decimal k ++ (newline ∷ []))))

-- the line of a record
abbrev pub record_line : ℕ → List ℕ → List ℕ
record_line n bytes = line_text n (get_or bytes 0 0) (refusal_of (record_of bytes)) (changes_of (record_of bytes))

-- the word blank
abbrev pub blank_word : List ℕ
blank_word = bytes_of "blank"

-- the line of a blank slot: its number, and the word
abbrev pub blank_line : ℕ → List ℕ
blank_line n = decimal n ++ (space ∷ blank_word ++ (newline ∷ []))

-- the line of a slot
abbrev pub slot_line : ℕ → List ℕ → List ℕ
slot_line n slot = cond (is_blank slot) (blank_line n) (record_line n slot)

-- the totals with one more record
abbrev pub counted : Totals → Outcome → Totals
counted t (accepted k) = record { accepted = t.accepted + 1; refused = t.refused; changed = t.changed + k }
counted t (refused n) = record { accepted = t.accepted; refused = t.refused + 1; changed = t.changed }

-- the totals with one more slot, whose record gets the outcome that f tells: a blank one enters none of them
abbrev pub slot_counted : (List ℕ → Outcome) → Totals → List ℕ → Totals
slot_counted f t slot = cond (is_blank slot) t (counted t (f slot))

-- one slot further: the next number, and the totals
abbrev pub further_by : (List ℕ → Outcome) → Progress → List ℕ → Progress
further_by f s slot = record { next = s.next + 1; totals = slot_counted f s.totals slot }

-- by what restoring the record answers
abbrev pub slot_further : Progress → List ℕ → Progress
slot_further s slot = further_by record_of s slot

-- ---- part by part

-- how far the listing has come behind a part, where it has come to s before it
abbrev pub part_progress : Progress → List ℕ → Progress
part_progress s part = over_slots slot_further s part

-- the same where each record is restored up to the reach n
abbrev pub progress_up_to : ℕ → Progress → List ℕ → Progress
progress_up_to n s part = over_slots (further_by (record_up_to n)) s part

-- some text, and how far the listing has come with it
pub record Told : Type 0 where
  pub text : List ℕ
  pub progress : Progress

-- the line of one slot more
abbrev pub slot_told : Told → List ℕ → Told
slot_told t slot = record { text = t.text ++ slot_line t.progress.next slot; progress = slot_further t.progress slot }

-- before the first slot
abbrev pub untold : Progress → Told
untold s = record { text = []; progress = s }

-- the lines of all slots of the part
abbrev pub part_lines : Progress → List ℕ → List ℕ
part_lines s part = (over_slots slot_told (untold s) part).text

-- ---- the whole listing

-- the five letters total
abbrev pub total_word : List ℕ
total_word = bytes_of "total"

-- the last line: the five letters, then accepted records, refused records and changed places
abbrev pub total_line : Totals → List ℕ
total_line t =
    total_word ++ (space ∷ decimal t.accepted ++ (space ∷ decimal t.refused ++ (space ∷ decimal t.changed ++ (newline ∷ []))))

-- the line that says that the card goes on behind the records listed
abbrev pub more_line : List ℕ
more_line = bytes_of "more\n"

-- no more records than this are listed, blank slots among them
abbrev pub most_records : ℕ
most_records = 1000000

-- the part of a card that is listed
abbrev pub listed_part : List ℕ → List ℕ
listed_part card = take (most_records * record_size) card

-- before the first record
abbrev pub start : Progress
start = record { next = 1; totals = record { accepted = 0; refused = 0; changed = 0 } }

-- the whole listing: the lines, the line "more" where a byte follows the last record listed, and the last line
unfoldable pub listing : List ℕ → List ℕ
listing card =
    part_lines start (listed_part card)
    ++ (cond (ltb (most_records * record_size) (length card)) more_line []
    ++ total_line (part_progress start (listed_part card)).totals)
