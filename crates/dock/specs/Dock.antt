-- One dock, four bays: the rewrites of a charge, and a bay's call. Assumes nothing.
use Rattle.std.specs.Prelude.{Ok, Err, Result, None, Some, Option, ◌≡◌, Bool, cond, ◌||◌, List, ℕ, ◌-◌, ltb, get_or, set, replicate}
use Rattle.field.specs.Question.{Outcome, accepted, refused, ask, after}
use Rattle.field.specs.declared.Question.{Question}
use Rattle.field.specs.declared.Question.TheVariants.{Bay, Rewrite}
use Rattle.code.specs.Call.{same_bytes, repair}
use Rattle.card.specs.Record.{record_within_of, record_within_written, record_of, on_accept, record_written}
use Rattle.dock.specs.declared.Rewrites.{Rewrites}
use Rattle.dock.specs.declared.Served.{Served}

-- ---- the rewrites

-- the bays are 0 to 3
abbrev pub bays : ℕ
bays = 4

-- of a charge so many rewrites belong to each bay
abbrev pub own_charge : ℕ
own_charge = 100

-- and so many to whoever comes first
abbrev pub common_charge : ℕ
common_charge = 600

-- what is left after a new charge
abbrev pub charged : Rewrites
charged = record { own = replicate bays own_charge; common = common_charge }

-- what is left to the bay of its own
abbrev pub own_of : Rewrites → ℕ → ℕ
own_of left bay = get_or left.own bay 0

-- is a rewrite left to the bay, own or common?
unfoldable pub any_left : Rewrites → ℕ → Bool
any_left left bay = ltb 0 (own_of left bay) || ltb 0 left.common

-- one rewrite less: a bay uses its own before the common ones
unfoldable pub spent : Rewrites → ℕ → Rewrites
spent left bay =
    cond (ltb 0 (own_of left bay))
    (record { own = set left.own bay (own_of left bay - 1); common = left.common })
    (record { own = left.own; common = left.common - 1 })

-- ---- a bay's call

-- what restoring a record answers at the reach that is named, and with none at the longest
abbrev pub answer_at : Option ℕ → List ℕ → Outcome
answer_at None r = record_of r
answer_at (Some reach) r = record_within_of r reach

-- and the record then
abbrev pub content_at : Option ℕ → List ℕ → List ℕ
content_at None r = record_written r
content_at (Some reach) r = record_within_written r reach

-- the bay, the reach, and the record as it is lent
pub record Call : Type 0 where
  pub bay : ℕ
  pub reach : Option ℕ
  pub lent : List ℕ

abbrev pub call_on : ℕ → Option ℕ → List ℕ → Call
call_on bay reach bytes = record { bay = bay; reach = reach; lent = bytes }

-- what restoring the record answers without bays, and the record then
abbrev pub answer_of : Call → Outcome
answer_of c = answer_at c.reach c.lent

abbrev pub content_of : Call → List ℕ
content_of c = content_at c.reach c.lent

-- where the record `old` becomes `new`: is no rewrite needed, or one left to the bay?
abbrev pub allowed : Rewrites → ℕ → List ℕ → List ℕ → Bool
allowed left bay old new = same_bytes old new || any_left left bay

-- and what is left then: a byte that changes costs one rewrite
abbrev pub remaining : Rewrites → ℕ → List ℕ → List ℕ → Rewrites
remaining left bay old new = cond (same_bytes old new) left (spent left bay)

-- a rewrite is asked for last, and only where restoring is accepted
abbrev pub granted : Outcome → Bool → Outcome
granted (accepted k) b = after (ask b Rewrite (Ok tt)) (accepted k)
granted (refused n) b = refused n

-- what is left after the call: a refused one leaves what it was handed
abbrev pub left_on : Outcome → Rewrites → Rewrites → Rewrites
left_on (accepted k) old new = new
left_on (refused n) old new = old

-- what the call answers
unfoldable pub call_of : Rewrites → Call → Outcome
call_of left c =
    after (ask (ltb c.bay bays) Bay (Ok tt)) (granted (answer_of c) (allowed left c.bay c.lent (content_of c)))

-- the record after the call, and what is left
unfoldable pub call_written : Rewrites → Call → List ℕ
call_written left c = on_accept (call_of left c) c.lent (content_of c)

unfoldable pub call_left : Rewrites → Call → Rewrites
call_left left c = left_on (call_of left c) left (remaining left c.bay c.lent (content_of c))

-- the number of changed places, or the refusal, of a bay's call
abbrev pub served_changes : Result Served Question → Result ℕ Question
served_changes (Ok s) = Ok s.changed
served_changes (Err q) = Err q

-- and what is left then: a refused call gives nothing back, and who made it keeps what it handed in
abbrev pub served_left : Rewrites → Result Served Question → Rewrites
served_left left (Ok s) = s.left
served_left left (Err q) = left

-- the call's promise: what it answers, gives back and leaves in the record
pub record Serves (left : Rewrites) (c : Call) (s : Result Served Question) (new : List ℕ) : Type 0 where
  pub answer : repair (served_changes s) ≡ call_of left c
  pub rest : served_left left s ≡ call_left left c
  pub content : new ≡ call_written left c
