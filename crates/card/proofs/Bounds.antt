-- How long lines are, and how far the numbers of a listing grow: at most two places of a record change. Assumes nothing.
use Rattle.field.proofs.Base.{◌≡◌, refl, Bool, true, false, cond, List, ℕ, zero, suc, ◌+◌, ◌*◌, ◌≤◌, arith, length, length-append, length-take}
use Rattle.field.specs.Question.{Outcome, accepted, refused}
use Rattle.code.specs.Call.{within_of}
use Rattle.code.proofs.Demands.{few-changed}
use Rattle.card.specs.declared.Progress.{Progress}
use Rattle.card.specs.Record.{width_of, word_of, erasures_of, record_asked, record_within_of, most_changes, reach_of, record_of}
use Rattle.card.specs.Record.{reach_up_to, record_up_to, erasure_bytes, record_size}
use Rattle.card.specs.Slots.{record_count, record_at, is_blank, over_first}
use Rattle.card.specs.Listing.{refusal_of, changes_of, line_text, record_line, blank_line, slot_line, counted, further_by, slot_told, untold}
use Rattle.card.specs.Listing.{part_progress, most_records, listed_part, start}
use Rattle.card.specs.inner.Room.{longest_line, Within}
use Rattle.card.proofs.Again.{accepted-means}
use Rattle.card.proofs.Writing.{length-decimal}

-- ---- lines

line-short : (n w r k : ℕ) → length (line_text n w r k) ≤ longest_line
line-short n w r k =
    simp length-append (omega (arith, length-decimal n, length-decimal w, length-decimal r, length-decimal k))

slot-short : (n : ℕ) (slot : List ℕ) → length (slot_line n slot) ≤ longest_line
slot-short n slot = go (is_blank slot)
  where
    go : (b : Bool) → length (cond b (blank_line n) (record_line n slot)) ≤ longest_line
    go true = simp length-append (omega (arith, length-decimal n))
    go false = line-short n (width_of slot) (refusal_of (record_of slot)) (changes_of (record_of slot))

pub lines-short : (s : Progress) (part : List ℕ) (k : ℕ) → length (over_first erasure_bytes slot_told (untold s) part k).text ≤ k * longest_line
unfolding over_first
lines-short s part zero = omega arith
lines-short s part (suc k) =
    let t = over_first erasure_bytes slot_told (untold s) part k in
    let line = slot_line t.progress.next (record_at part k) in
    omega (arith, length-append t.text line, lines-short s part k, slot-short t.progress.next (record_at part k))

-- ---- changed places

-- of a record that is accepted at most two places change
few-within : (r : List ℕ) (reach k : ℕ) → record_within_of r reach ≡ accepted k → k ≤ most_changes
unfolding record_within_of
few-within r reach k e =
    let o = within_of (width_of r) (word_of r) (erasures_of r) reach in
    let f = few-changed (width_of r) (word_of r) (erasures_of r) reach k (accepted-means (record_asked r) o k e).1 in
    omega (arith, f.0, f.1)

pub few-places : (r : List ℕ) (k : ℕ) → record_of r ≡ accepted k → k ≤ most_changes
unfolding record_of
few-places r = few-within r (reach_of r)

pub few-up-to : (n : ℕ) (r : List ℕ) (k : ℕ) → record_up_to n r ≡ accepted k → k ≤ most_changes
unfolding record_up_to
few-up-to n r = few-within r (reach_up_to n r)

-- ---- the numbers of a listing

-- k slots were counted from s to u
record Grown (k : ℕ) (s u : Progress) : Type 0 where
  next : u.next ≡ s.next + k
  accepted : u.totals.accepted ≤ s.totals.accepted + k
  refused : u.totals.refused ≤ s.totals.refused + k
  changed : u.totals.changed ≤ s.totals.changed + k * most_changes

-- f tells what restoring a record answers, at whatever reach
module _ (f : List ℕ → Outcome) (few : (r : List ℕ) (k : ℕ) → f r ≡ accepted k → k ≤ most_changes) where
  grown-slot : (k : ℕ) (s u : Progress) (slot : List ℕ) → Grown k s u → Grown (suc k) s (further_by f u slot)
  grown-slot k s u slot G = go (is_blank slot) (f slot) (few slot)
    where
      go : (b : Bool) (o : Outcome) → ((n : ℕ) → o ≡ accepted n → n ≤ most_changes)
          → Grown (suc k) s (record { next = u.next + 1; totals = cond b u.totals (counted u.totals o) })
      go true o few = omega arith
      go false (accepted n) few = let h = few n refl in omega arith
      go false (refused n) few = omega arith

  progress-grown : (s : Progress) (part : List ℕ) (k : ℕ) → Grown k s (over_first erasure_bytes (further_by f) s part k)
  unfolding over_first
  progress-grown s part zero = omega arith
  progress-grown s part (suc k) =
      grown-slot k s (over_first erasure_bytes (further_by f) s part k) (record_at part k) (progress-grown s part k)

  -- where the counting has come to u from s, over k slots
  pub progress-within : (b c : ℕ) (s u : Progress) (part : List ℕ) (k : ℕ) → u ≡ over_first erasure_bytes (further_by f) s part k → Within b s
      → b + k * most_changes ≤ c → Within c u
  progress-within b c s u part k e W h = let G = progress-grown s part k in rw e (omega arith)

-- the sum of changed places, in the last line of the listing of any card
pub sum-most : (card : List ℕ) → (part_progress start (listed_part card)).totals.changed ≤ 2000000
sum-most card =
    let part = listed_part card in
    let most : length part ≤ most_records * record_size = simp length-take (omega arith) in
    omega (arith, (progress-grown record_of few-places start part (record_count (length part))).changed)
