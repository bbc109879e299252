-- A run of calls since the last charge, and its history. Assumes nothing.
use Rattle.std.specs.Prelude.{cond, List, [], ◌∷◌, ℕ, ◌+◌, eqb}
use Rattle.code.specs.Call.{same_bytes}
use Rattle.dock.specs.declared.Rewrites.{Rewrites}
use Rattle.dock.specs.Dock.{Call, call_written, call_left}

-- what is left after the calls, each handed what the charge or the call before gave back
unfoldable pub left_after : Rewrites → List Call → Rewrites
left_after left [] = left
left_after left (c ∷ cs) = left_after (call_left left c) cs

-- an entry of the history: the bay, and the record as it was lent and as it came back
pub record Entry : Type 0 where
  pub bay : ℕ
  pub lent : List ℕ
  pub back : List ℕ

-- the history of the calls
unfoldable pub history : Rewrites → List Call → List Entry
history left [] = []
history left (c ∷ cs) = record { bay = c.bay; lent = c.lent; back = call_written left c } ∷ history (call_left left c) cs

-- the rewrites used: the entries whose record came back different
unfoldable pub used : List Entry → ℕ
used [] = 0
used (e ∷ es) = cond (same_bytes e.lent e.back) 0 1 + used es

-- and those of a bay
unfoldable pub used_by : ℕ → List Entry → ℕ
used_by bay [] = 0
used_by bay (e ∷ es) = cond (eqb e.bay bay) (cond (same_bytes e.lent e.back) 0 1) 0 + used_by bay es

-- the sum of the list
abbrev pub own_sum : List ℕ → ℕ
own_sum [] = 0
own_sum (x ∷ xs) = x + own_sum xs

-- the rewrites left to all
abbrev pub all_left : Rewrites → ℕ
all_left left = own_sum left.own + left.common
