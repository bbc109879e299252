-- The room for the text of a look. Assumes nothing.
use Rattle.std.specs.Prelude.{ℕ, ◌+◌, ◌*◌}
use Rattle.code.specs.Word.{longest}
use Rattle.card.specs.inner.Room.{longest_refusal}
use Rattle.show.specs.inner.Room.{longest_digits, longest_dated}

-- a space and a number
abbrev pub longest_spaced : ℕ
longest_spaced = 1 + longest_digits

-- a list of at most five numbers, or the word none
abbrev pub longest_list : ℕ
longest_list = 5 * longest_spaced + 1

-- the lines of width and erasures
abbrev pub longest_header : ℕ
longest_header = 15 + longest_digits + longest_list

-- the line of the syndromes
abbrev pub longest_syndromes : ℕ
longest_syndromes = 9 + longest_list

-- the line of a place
abbrev pub longest_place : ℕ
longest_place = 13 + 3 * longest_digits

-- the lines of all places
abbrev pub longest_places : ℕ
longest_places = longest * longest_place

-- the line of an hour
abbrev pub longest_hour : ℕ
longest_hour = 8 + 2 * longest_digits

-- the lines of a day sheet
abbrev pub longest_day : ℕ
longest_day = longest_dated + 24 * longest_hour

-- the line of a refusal
abbrev pub longest_refused : ℕ
longest_refused = 9 + longest_refusal

-- what restoring makes of the record
abbrev pub longest_restoring : ℕ
longest_restoring = 48 + longest_digits + longest_places + longest_day

-- the whole text
abbrev pub longest_look : ℕ
longest_look = 8 + longest_digits + longest_header + longest_syndromes + longest_restoring
