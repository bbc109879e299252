-- A text that grows at its end. Assumes nothing.
use Rattle.std.specs.Prelude.{◌≡◌, List, ◌++◌, ℕ, ◌+◌, length, drop}
use Rattle.std.specs.Borrow.{GName}

-- the bytes written, how many more fit behind them, what stands there in the lent memory, and which memory that is
pub record Written : Type 0 where
  pub bytes : List ℕ
  pub room : ℕ
  pub rest : List ℕ
  pub lent : GName

-- the text `old` becomes `new` as the bytes xs are put behind it; the lent memory behind them stays as it was
pub record Appends (old : Written) (xs : List ℕ) (new : Written) : Type 0 where
  pub bytes : new.bytes ≡ old.bytes ++ xs
  pub room : old.room ≡ length xs + new.room
  pub rest : new.rest ≡ drop (length xs) old.rest
  pub lent : new.lent ≡ old.lent

-- the text `old` stays, and the byte behind it is one over which the next will go
pub record Covers (old new : Written) : Type 0 where
  pub bytes : new.bytes ≡ old.bytes
  pub room : new.room ≡ old.room
  pub rest : drop 1 new.rest ≡ drop 1 old.rest
  pub lent : new.lent ≡ old.lent
