-- The counts of the dock as lent numbers: those of bays 0 to 3, and then the common ones. Assumes nothing.
use Rattle.std.specs.Prelude.{Ok, Option, List, [], ◌∷◌, ◌++◌, ℕ, ◌+◌, eqb, ltb, length, get_or, take}
use Rattle.field.specs.Question.{Verdict, Outcome, ask, after}
use Rattle.field.specs.declared.Question.TheVariants.{Length, Bay}
use Rattle.code.specs.Call.{done, written}
use Rattle.dock.specs.declared.Rewrites.{Rewrites}
use Rattle.dock.specs.Dock.{bays, charged, call_on, call_of, call_written, call_left}

-- the number of counts
abbrev pub counts_size : ℕ
counts_size = bays + 1

-- the rewrites left, by the lent counts
abbrev pub rewrites_of : List ℕ → Rewrites
rewrites_of xs = record { own = take bays xs; common = get_or xs bays 0 }

-- and the counts, by the rewrites left
abbrev pub lent_counts : Rewrites → List ℕ
lent_counts left = left.own ++ (left.common ∷ [])

-- ---- a new charge

abbrev pub counts_asked : ℕ → Verdict
counts_asked n = ask (eqb n counts_size) Length (Ok tt)

abbrev pub charge_of : List ℕ → Outcome
charge_of xs = done (counts_asked (length xs))

abbrev pub charge_written : List ℕ → List ℕ
charge_written xs = written (counts_asked (length xs)) xs (lent_counts charged)

-- ---- a bay's call: the bay is asked first, then the length of the counts

unfoldable pub bay_asked : ℕ → ℕ → Verdict
bay_asked bay n = ask (ltb bay bays) Bay (counts_asked n)

abbrev pub bay_of : ℕ → Option ℕ → List ℕ → List ℕ → Outcome
bay_of bay reach xs bytes = after (bay_asked bay (length xs)) (call_of (rewrites_of xs) (call_on bay reach bytes))

-- the counts and the record after the call
abbrev pub bay_counts : ℕ → Option ℕ → List ℕ → List ℕ → List ℕ
bay_counts bay reach xs bytes = written (bay_asked bay (length xs)) xs (lent_counts (call_left (rewrites_of xs) (call_on bay reach bytes)))

abbrev pub bay_written : ℕ → Option ℕ → List ℕ → List ℕ → List ℕ
bay_written bay reach xs bytes = written (bay_asked bay (length xs)) bytes (call_written (rewrites_of xs) (call_on bay reach bytes))
