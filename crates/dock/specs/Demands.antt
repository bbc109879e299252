-- The demands on the dock, as statements about the definitions; proofs/Demands.antt proves each under its name in small letters. Assumes
-- nothing.
use Rattle.std.specs.Prelude.{◌≡◌, ◌↔◌, ◌≢◌, List, ℕ, ◌+◌, ◌<◌, length}
use Rattle.field.specs.Question.{accepted, refused}
use Rattle.dock.specs.declared.Rewrites.{Rewrites}
use Rattle.dock.specs.Dock.{bays, own_charge, charged, own_of, Call, answer_of, content_of, call_of, call_written, call_left}
use Rattle.dock.specs.Run.{left_after, history, used, used_by, all_left}

-- the rewrites used since the charge, counted from the history, and those left make 1,000
abbrev pub Thousand : Type 0
Thousand = (run : List Call) → used (history charged run) + all_left (left_after charged run) ≡ 1000

-- the call does as without bays, and is not refused with 19
pub record AsWithout (left : Rewrites) (c : Call) : Type 0 where
  pub answer : call_of left c ≡ answer_of c
  pub content : call_written left c ≡ content_of c
  pub not-denied : call_of left c ≢ refused 19

-- no bay is denied its 100 by the others: as long as it has had fewer rewrites, its call restores as without bays
abbrev pub NotDenied : Type 0
NotDenied =
    (run : List Call) (c : Call) → c.bay < bays → used_by c.bay (history charged run) < own_charge
    → AsWithout (left_after charged run) c

-- a rewrite is missing: restoring would be accepted and change a byte, and none is left to the bay, own or common
pub record Missing (left : Rewrites) (c : Call) : Type 0 where
  pub bay : c.bay < bays
  pub changes : ℕ
  pub restored : answer_of c ≡ accepted changes
  pub different : c.lent ≢ content_of c
  pub none-own : own_of left c.bay ≡ 0
  pub none-common : left.common ≡ 0

-- a call is refused with 19 exactly then, whatever the counts are
abbrev pub Denied : Type 0
Denied = (left : Rewrites) (c : Call) → (call_of left c ≡ refused 19) ↔ Missing left c

-- a refused call changes neither the record nor the counts
abbrev pub RefusedStays : Type 0
RefusedStays =
    (left : Rewrites) (c : Call) (n : ℕ) → call_of left c ≡ refused n → (call_written left c ≡ c.lent) × (call_left left c ≡ left)

-- a call of a bay below 4 that is not refused with 19 answers and leaves the record as without bays, whatever the counts are
abbrev pub UnlessDenied : Type 0
UnlessDenied =
    (left : Rewrites) (c : Call) → c.bay < bays → call_of left c ≢ refused 19
    → (call_of left c ≡ answer_of c) × (call_written left c ≡ content_of c)

-- the counts have one rewrite less and are else as they were: the bay's own where it had one left, else a common one
pub record OneLess (old new : Rewrites) (bay : ℕ) : Type 0 where
  pub size : length new.own ≡ length old.own
  pub others : (b : ℕ) → b ≢ bay → own_of new b ≡ own_of old b
  pub from-own : 0 < own_of old bay → (own_of new bay + 1 ≡ own_of old bay) × (new.common ≡ old.common)
  pub from-common : own_of old bay ≡ 0 → (own_of new bay ≡ 0) × (new.common + 1 ≡ old.common)

-- a call costs one rewrite exactly where it changes a byte of the record, and none exactly where it does not
pub record Costs (left : Rewrites) (c : Call) : Type 0 where
  pub changed : (call_written left c ≢ c.lent) ↔ OneLess left (call_left left c) c.bay
  pub unchanged : (call_written left c ≡ c.lent) ↔ (call_left left c ≡ left)

abbrev pub CallCosts : Type 0
CallCosts = (left : Rewrites) (c : Call) → length left.own ≡ bays → Costs left c
