-- A record as a mechanic wants to see it: what stands in it, and what restoring makes of it. Assumes nothing.
use Rattle.std.specs.Prelude.{cond, List, [], ◌∷◌, ◌++◌, ℕ, ◌+◌, ◌*◌, min, eqb, length, take, drop}
use Rattle.field.specs.Question.{Outcome, accepted, refused, refusal}
use Rattle.field.specs.declared.Question.TheVariants.{Length}
use Rattle.code.specs.Word.{at, longest}
use Rattle.code.specs.Call.{syndromes_of, syndromes_given}
use Rattle.card.specs.Record.{header_of, erasure_bytes, record_size, width_of, count_of, word_of, record_of, copy_written}
use Rattle.card.specs.Slots.{is_blank}
use Rattle.card.specs.Listing.{bytes_of, newline}
use Rattle.card.specs.Words.{refusal_line}
use Rattle.report.specs.Day.{Day, sheet, no_sheet, day_of}
use Rattle.show.specs.Text.{labelled, texts, dated_lines}

-- ---- lists of numbers

-- number i of a list behind a space
abbrev pub spaced_at : List ℕ → ℕ → List ℕ
spaced_at xs i = labelled (bytes_of " ") (at xs i)

-- the rest of a line with these numbers, or the word none
unfoldable pub listed : List ℕ → List ℕ
listed xs = cond (eqb (length xs) 0) (bytes_of " none\n") (texts (spaced_at xs) (length xs) ++ newline ∷ [])

-- ---- what stands in the record

-- the erasures that the record names, as far as there are bytes for them
abbrev pub named_erasures : List ℕ → List ℕ
named_erasures r = take (min erasure_bytes (count_of r)) (drop 2 r)

-- its byte 0 and its erasures
unfoldable pub header_text : List ℕ → List ℕ
header_text r = labelled (bytes_of "width ") (width_of r) ++ (bytes_of "\nerasures" ++ listed (named_erasures r))

-- the five syndromes without the erasures, where the display shows them
abbrev pub syndromes_line : Outcome → List ℕ → List ℕ
syndromes_line (accepted k) sums = bytes_of "syndromes" ++ listed sums
syndromes_line (refused n) sums = []

unfoldable pub syndromes_text : List ℕ → List ℕ
syndromes_text r =
    syndromes_line (syndromes_of (width_of r) (word_of r) (named_erasures r)) (syndromes_given (width_of r) (word_of r) (named_erasures r))

-- ---- what restoring makes of it

-- a place that would change: the symbol as it is, and as it was written
unfoldable pub place_line : ℕ → ℕ → ℕ → List ℕ
place_line p a b =
    cond (eqb a b) []
    (labelled (bytes_of "place ") p ++ (labelled (bytes_of ": ") a ++ (labelled (bytes_of " -> ") b ++ newline ∷ [])))

-- place p of a record and of the restored one
abbrev pub place_at : List ℕ → List ℕ → ℕ → List ℕ
place_at old new p = place_line p (at old (header_of erasure_bytes + p)) (at new (header_of erasure_bytes + p))

-- a line for each place that would change, in rising order
abbrev pub place_lines : List ℕ → List ℕ → List ℕ
place_lines old new = texts (place_at old new) longest

-- the starts in the hour h
abbrev pub hour_sum : List ℕ → ℕ → ℕ
hour_sum ss h = at ss (4 * h) + at ss (4 * h + 1) + at ss (4 * h + 2) + at ss (4 * h + 3)

unfoldable pub hour_line : List ℕ → ℕ → List ℕ
hour_line ss h = labelled (bytes_of "hour ") h ++ (labelled (bytes_of ": ") (hour_sum ss h) ++ newline ∷ [])

-- the day sheet with these symbols: its date, its pump, and the starts by the hour
unfoldable pub sheet_lines : List ℕ → List ℕ
sheet_lines ss = dated_lines ss ++ texts (hour_line ss) 24

-- a record that is no day sheet has none
abbrev pub day_text : Day → List ℕ
day_text (sheet k ss) = sheet_lines ss
day_text (no_sheet n) = []

-- record n is refused with r
unfoldable pub refused_text : ℕ → ℕ → List ℕ
refused_text n r = bytes_of "refused: " ++ refusal_line n r

-- record n, its bytes before and after restoring, and its day
abbrev pub restoring_text : ℕ → Outcome → List ℕ → List ℕ → Day → List ℕ
restoring_text n (accepted k) old new d =
    labelled (bytes_of "accepted, wrong symbols changed: ") k ++ (bytes_of "\n" ++ (place_lines old new ++ day_text d))
restoring_text n (refused r) old new d = refused_text n r

-- ---- the whole text

-- a whole record with the number n
abbrev pub record_text : ℕ → List ℕ → List ℕ
record_text n r = header_text r ++ (syndromes_text r ++ restoring_text n (record_of r) r (copy_written r) (day_of r))

-- a slot that is not blank; one that is too short is refused
abbrev pub written_text : ℕ → List ℕ → List ℕ
written_text n slot = cond (eqb (length slot) record_size) (record_text n slot) (refused_text n (refusal Length))

-- the slot with the number n
unfoldable pub look_text : ℕ → List ℕ → List ℕ
look_text n slot = labelled (bytes_of "record ") n ++ (newline ∷ cond (is_blank slot) (bytes_of "blank\n") (written_text n slot))
