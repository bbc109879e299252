-- Where the part lies that a comparison hands back, as two lent numbers. Assumes nothing.
use Rattle.std.specs.Prelude.{cond, ℕ, ◌-◌, ◌*◌, eqb}
use Rattle.field.specs.Question.{Outcome, accepted, refused}
use Rattle.card.specs.Record.{record_size}

-- the byte of the chosen card at which the part begins, record i of the controller's or record j of the cupboard's; on a refusal the lent
-- number stays
abbrev pub part_offset : Outcome → ℕ → ℕ → ℕ → ℕ
part_offset (accepted w) i j old = (cond (eqb w 1) i j - 1) * record_size
part_offset (refused n) i j old = old

-- the number of its bytes
abbrev pub part_size : Outcome → ℕ → ℕ
part_size (accepted w) old = record_size
part_size (refused n) old = old
