-- From batch to batch, whatever is carried and in whatever edition: `over` is a fold that may come in parts, size that of a slot.
-- Assumes nothing.
use Rattle.field.proofs.Base.{◌≡◌, refl, sym, ap, ◌∙◌, Bool, true, List, ◌++◌, ℕ, ◌+◌, ◌*◌, ◌^◌, ◌≤◌, add-one, arith, length, length-append}
use native.Mathlib.Nat.{suc-mul, mul_assoc}
use lib.Dec.{lit≤}
use Rattle.field.specs.Question.{Outcome, accepted}
use Rattle.card.specs.declared.Progress.{Progress}
use Rattle.card.specs.Record.{most_changes, record_of, record_up_to}
use Rattle.card.specs.Slots.{record_count, over_slots, Came}
use Rattle.card.specs.Listing.{further_by, part_progress, progress_up_to, start}
use Rattle.card.specs.Batch.{batch_records, batch_size, most_batches}
use Rattle.card.specs.inner.Room.{Within}
use Rattle.card.proofs.Bounds.{few-places, few-up-to, progress-within}

-- behind i whole batches, and one more
module _ {A : Type 0} (over : A → List ℕ → A) (size : ℕ)
    (in_parts : (a b : List ℕ) (j : ℕ) → length a ≡ j * size → (s : A) → over s (a ++ b) ≡ over (over s a) b) (s : A) (i : ℕ) (t : A)
    (C : Came over (i * (batch_records * size)) s t true) (u : A) (going : Bool) (D : Came over (batch_records * size) t u going) where
  pub came-whole : length C.bytes ≡ i * batch_records * size
  came-whole = C.full refl ∙ sym (mul_assoc i batch_records size)

  abbrev pub came-more : Came over ((i + 1) * (batch_records * size)) s u going
  came-more =
      let both = length-append C.bytes D.bytes in
      let next : (i + 1) * (batch_records * size) ≡ i * (batch_records * size) + batch_records * size =
      ap (λ (x : ℕ). x * (batch_records * size)) (add-one i) ∙ suc-mul i (batch_records * size) in
      record {
        bytes = C.bytes ++ D.bytes;
        content = D.content
            ∙ ap (λ (v : A). over v D.bytes) C.content
            ∙ sym (in_parts C.bytes D.bytes (i * batch_records) came-whole s);
        most = omega (arith, both, next, C.most, D.most);
        full = λ g. both ∙ omega (arith, next, C.full refl, D.full g);
      }

-- the numbers of a listing are small; so are those of a counting by f, which tells what restoring a record answers at whatever reach
pub counting-within : (f : List ℕ → Outcome) → ((r : List ℕ) (k : ℕ) → f r ≡ accepted k → k ≤ most_changes) → (i : ℕ) (s : Progress)
    → Came (over_slots (further_by f)) (i * batch_size) start s true → i ≤ most_batches → Within (2 ^ 62) s
counting-within f few i s C h =
    let slots : record_count (length C.bytes) ≤ most_batches * batch_records = omega (arith, C.most) in
    progress-within f few 1 (2 ^ 62) start s C.bytes (record_count (length C.bytes)) C.content
    (record { next = lit≤ tt; accepted = lit≤ tt; refused = lit≤ tt; changed = lit≤ tt }) (omega arith)

pub continues-within : (i : ℕ) (s : Progress) → Came part_progress (i * batch_size) start s true → i ≤ most_batches → Within (2 ^ 62) s
continues-within = counting-within record_of few-places

pub up-to-within : (n i : ℕ) (s : Progress) → Came (progress_up_to n) (i * batch_size) start s true → i ≤ most_batches → Within (2 ^ 62) s
up-to-within n = counting-within (record_up_to n) (few-up-to n)
