-- A record restored up to a longest reach: as with its own r, or refused; restored again; and up to two. Assumes nothing.
use Rattle.std.proofs.Common.{Ok, Result}
use Rattle.field.specs.declared.Question.{Question}
use Rattle.field.proofs.Base.{◌≡◌, refl, sym, ap, ◌∙◌, List, ℕ, ◌≤◌, ◌<◌, dec_lt, le_refl, arith, length}
use mathlib.Core.Path.{fun_ext}
use Rattle.field.specs.Question.{Outcome, accepted, refused}
use Rattle.code.specs.Near.{distance}
use Rattle.code.specs.Call.{within_of, within_written}
use Rattle.code.specs.Demands.{Passes}
use Rattle.code.proofs.calls.Passing.{passes-within, within-passes}
use Rattle.code.proofs.Demands.{accepts, longer-reach}
use Rattle.card.specs.declared.Progress.{Progress}
use Rattle.card.specs.Record.{width_of, word_of, erasures_of, record_asked, clear_record, record_within_of, record_within_written, reach_of, record_of}
use Rattle.card.specs.Record.{record_written, RestoresRecord, reach_up_to, record_up_to, record_written_up_to, most_changes}
use Rattle.card.specs.Record.{RestoresRecordUpTo, NotOtherwise, UpToTwo}
use Rattle.card.specs.Slots.{over_slots}
use Rattle.card.specs.Listing.{further_by, part_progress, progress_up_to}
use Rattle.card.proofs.Again.{accepted-means, written-clear, within-again, again-reach, within-stays, within-size}

-- ---- what is restored at a reach is restored equally at the record's own r

module _ (r : List ℕ) (reach k : ℕ) (e : record_within_of r reach ≡ accepted k) where
  means : (record_asked r ≡ (Ok tt)) × (within_of (width_of r) (word_of r) (erasures_of r) reach ≡ accepted k)
  unfolding record_within_of
  means = accepted-means (record_asked r) (within_of (width_of r) (word_of r) (erasures_of r) reach) k e

  allowed : Passes (width_of r) (word_of r) (erasures_of r) × (reach ≤ reach_of r)
  allowed =
      within-passes (width_of r) (word_of r) (erasures_of r) reach
      ((accepts (width_of r) (word_of r) (erasures_of r) reach k (within_written (width_of r) (word_of r) (erasures_of r) reach)).0 (means.1, refl)).0

  abbrev Equally : Type 0
  Equally = (record_within_of r (reach_of r) ≡ accepted k) × (record_within_written r reach ≡ record_within_written r (reach_of r))

  answer : within_of (width_of r) (word_of r) (erasures_of r) (reach_of r) ≡ accepted k → record_within_of r (reach_of r) ≡ accepted k
  unfolding record_within_of
  answer h = rw means.0 h

  -- with fewer erasures than the distance
  few : length (erasures_of r) < distance (width_of r) → Equally
  few l =
      let L =
      longer-reach (width_of r) (word_of r) (erasures_of r) reach (reach_of r) k l allowed.1
      (passes-within (width_of r) (word_of r) (erasures_of r) (reach_of r) allowed.0 (le_refl (reach_of r))) means.1 in
      let o = answer L.0 in
      (o, written-clear r reach k e ∙ ap (clear_record (width_of r)) (sym L.1) ∙ sym (written-clear r (reach_of r) k o))

  -- with more of them r is 0
  many : (length (erasures_of r) < distance (width_of r) → ⊥) → Equally
  many n =
      let same : reach ≡ reach_of r = omega (arith, allowed.1) in
      (ap (record_within_of r) (sym same) ∙ e, ap (record_within_written r) same)

  equally : Equally
  equally = go (dec_lt (length (erasures_of r)) (distance (width_of r)))
    where
      go : Dec (length (erasures_of r) < distance (width_of r)) → Equally
      go (yes l) = few l
      go (no n) = many n

-- ---- up to a longest reach

pub up-to-stays : (n : ℕ) (r : List ℕ) (k : ℕ) → record_up_to n r ≡ refused k → record_written_up_to n r ≡ r
unfolding record_up_to record_written_up_to
up-to-stays n r k e = within-stays r (reach_up_to n r) k e

pub not-otherwise : NotOtherwise
unfolding record_up_to record_written_up_to record_of record_written
not-otherwise n r = record { same = λ k e. equally r (reach_up_to n r) k e; stays = up-to-stays n r }

pub up-to-size : (n : ℕ) (r : List ℕ) → length (record_written_up_to n r) ≡ length r
unfolding record_written_up_to
up-to-size n r = within-size r (reach_up_to n r)

accepted-again : (n : ℕ) (r : List ℕ) (k : ℕ) → record_up_to n r ≡ accepted k
    → record_written_up_to n (record_written_up_to n r) ≡ record_written_up_to n r
unfolding record_up_to record_written_up_to
accepted-again n r k e =
    (within-again r (reach_up_to n r) k e (reach_up_to n (record_within_written r (reach_up_to n r)))
    (omega (arith, again-reach r (reach_up_to n r) k e))).1

-- restoring a second time changes nothing
pub up-to-again : (n : ℕ) (r : List ℕ) → record_written_up_to n (record_written_up_to n r) ≡ record_written_up_to n r
up-to-again n r = go (record_up_to n r) refl
  where
    go : (o : Outcome) → record_up_to n r ≡ o → record_written_up_to n (record_written_up_to n r) ≡ record_written_up_to n r
    go (accepted k) e = accepted-again n r k e
    go (refused k) e = ap (record_written_up_to n) (up-to-stays n r k e)

-- ---- no r is longer than two

reach-two : (r : List ℕ) → reach_up_to most_changes r ≡ reach_of r
reach-two r = omega arith

pub up-to-two : UpToTwo
unfolding record_up_to record_written_up_to record_of record_written
up-to-two r = (ap (record_within_of r) (reach-two r), ap (record_within_written r) (reach-two r))

pub restores-two : (r : List ℕ) (x : Result ℕ Question) (new : List ℕ) → RestoresRecordUpTo most_changes r x new → RestoresRecord r x new
restores-two r x new R = record { answer = R.answer ∙ (up-to-two r).0; content = R.content ∙ (up-to-two r).1 }

pub progress-two : (s : Progress) (part : List ℕ) → progress_up_to most_changes s part ≡ part_progress s part
progress-two s part = ap (λ (f : List ℕ → Outcome). over_slots (further_by f) s part) (fun_ext (λ r. (up-to-two r).0))
