-- The number that an exported call returns. Assumes nothing.
use Rattle.std.specs.Prelude.{List, ℕ, ◌+◌, ◌*◌, get_or}
use Rattle.field.specs.Question.{Outcome, accepted, refused}
use Rattle.card.specs.Card.{Check, no_bad, bad}

-- refusal + 256 * value: the refusal is 0 where the call accepts, and the value is 0 where it refuses
abbrev pub packed : Outcome → ℕ
packed (accepted v) = 256 * v
packed (refused n) = n

-- a refusal number and five bytes: refusal + 2^8 b_0 + 2^16 b_1 + 2^24 b_2 + 2^32 b_3 + 2^40 b_4
abbrev pub packed_bytes : ℕ → List ℕ → ℕ
packed_bytes n bs = n + 256 * (get_or bs 0 0 + 256 * (get_or bs 1 0 + 256 * (get_or bs 2 0 + 256 * (get_or bs 3 0 + 256 * get_or bs 4 0))))

-- an answer and three totals above it: refusal + 2^8 choice + 2^16 equal + 2^24 controller's higher + 2^32 cupboard's higher
abbrev pub packed_totals : ℕ → ℕ → ℕ → ℕ → ℕ
packed_totals n e a b = n + 65536 * (e + 256 * (a + 256 * b))

-- the number that the card check returns: a record's, or 0, which is none's
abbrev pub checked : Check → ℕ
checked no_bad = 0
checked (bad k) = k
