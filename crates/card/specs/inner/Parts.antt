-- Parts of a record and of a card, for the functions that read and restore them. Assumes nothing.
use Rattle.std.specs.Prelude.{◌≡◌, List, ℕ, take, drop}
use Rattle.std.specs.Borrow.{Bor}
use Rattle.card.specs.Record.{header_of, unused_in, tail_in, erasure_bytes, record_size}
use Rattle.card.specs.Card.{LiesAt}

-- the header, the unused erasure bytes and the tail in today's edition
abbrev pub header_size : ℕ
header_size = header_of erasure_bytes

abbrev pub unused_of : List ℕ → List ℕ
unused_of r = unused_in erasure_bytes r

abbrev pub tail_of : List ℕ → List ℕ
tail_of r = tail_in erasure_bytes r

-- the slot of today's edition that begins at byte a of the lent card: its bytes, where they lie
pub record SlotFrom (card : Bor (List ℕ)) (a : ℕ) (r : Bor (List ℕ)) : Type 0 where
  pub bytes : r.now ≡ take record_size (drop a card.now)
  pub lies : LiesAt card a r
