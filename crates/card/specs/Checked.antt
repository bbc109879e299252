-- The card check as a line of text, of a card that comes in batches. Assumes nothing.
use Rattle.std.specs.Prelude.{◌≡◌, Bool, true, false, List, [], ◌++◌, ℕ, ◌+◌, ◌*◌, length}
use Rattle.field.specs.Question.{Outcome, accepted, refused}
use Rattle.card.specs.Record.{record_size, record_of}
use Rattle.card.specs.Card.{Check, no_bad, bad, Search, passed, named, searched, first_refused}
use Rattle.card.specs.Text.{Written, Appends}
use Rattle.card.specs.Listing.{bytes_of}
use Rattle.card.specs.Words.{refusal_line}

-- the line of a record that would be refused
abbrev pub outcome_line : ℕ → Outcome → List ℕ
outcome_line n (accepted k) = []
outcome_line n (refused r) = refusal_line n r

-- the line of the record that a search has named; none where it has named none
abbrev pub found_line : Search → List ℕ
found_line (passed n) = []
found_line (named n r) = outcome_line n (record_of r)

-- the line of a card whose records would all be accepted
abbrev pub ok_line : List ℕ
ok_line = bytes_of "ok\n"

-- the line of a card, by the search over it
abbrev pub line_of : Search → List ℕ
line_of (passed n) = ok_line
line_of (named n r) = found_line (named n r)

-- what a check of the card says
unfoldable pub check_text : List ℕ → List ℕ
check_text card = line_of (searched 0 card)

-- has the search named a record?
abbrev pub names : Search → Bool
names (passed n) = false
names (named n r) = true

-- what a search has come to: whether it has named a record, whose line is then written
pub record Finds (u : Search) (old : Written) (any : Bool) (new : Written) : Type 0 where
  pub named : any ≡ names u
  pub text : Appends old (found_line u) new

-- ---- a card in parts; proofs/Finding.antt proves it

-- the answer of one check behind j slots
abbrev pub behind : ℕ → Check → Check
behind j no_bad = no_bad
behind j (bad k) = bad (j + k)

-- the first of two answers that names a record
abbrev pub or_else : Check → Check → Check
or_else (bad k) next = bad k
or_else no_bad next = next

-- the first refused record of a card is that of its first part, of j whole slots, or that of the second part, with the number running on
abbrev pub FirstInParts : Type 0
FirstInParts =
    (a b : List ℕ) (j : ℕ) → length a ≡ j * record_size → first_refused (a ++ b) ≡ or_else (first_refused a) (behind j (first_refused b))
