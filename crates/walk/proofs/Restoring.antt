-- A card restored slot by slot and part by part, whatever is made of a slot. Assumes nothing.
use Rattle.field.proofs.Base.{◌≡◌, sym, ap, ap₂, ◌∙◌, List, [], ◌++◌, append_assoc, append-nil, ℕ, ◌+◌, ◌-◌, ◌*◌, ◌≤◌, ◌<◌, min, arith, length, take}
use Rattle.field.proofs.Base.{drop, length-append, length-take, length-drop, take-append-drop, drop_of_length-le, take_at, drop_at, take_all}
use Rattle.field.proofs.Base.{drop-drop}
use mathlib.Core.Path.{fun_ext}
use lib.Seq.{take-add}
use Rattle.card.specs.Record.{erasure_bytes, record_size, most_changes, record_written, record_written_up_to}
use Rattle.card.specs.Slots.{record_count, record_at, over_first, over_slots, appended}
use Rattle.card.proofs.Again.{written-size, written-again}
use Rattle.card.proofs.Reaches.{not-otherwise, up-to-size, up-to-again, up-to-two, progress-two}
use Rattle.card.proofs.Folding.{over-same, in_parts, each-front, each-kept, each_at}
use Rattle.walk.specs.Restored.{slots_from}
use Rattle.walk.specs.Demands.{EachAlone}
use Rattle.walk.specs.Counting.{RestoredInParts, RestoredInPartsUpTo, CardAgain, CardAgainUpTo, CardNotOtherwise, CardUpToTwo}

-- what f makes of each slot of a card, and of the k slots behind the first i in their place
abbrev pub each_by : (List ℕ → List ℕ) → List ℕ → List ℕ
each_by f card = over_slots (appended f) [] card

abbrev pub from_by : (List ℕ → List ℕ) → ℕ → ℕ → List ℕ → List ℕ
from_by f i k card = take (i * record_size) card ++ (each_by f (slots_from i k card) ++ drop (k * record_size) (drop (i * record_size) card))

-- all slots
pub slots-all : (n : ℕ) (card : List ℕ) → record_count (length card) ≤ n → slots_from 0 n card ≡ card
slots-all n card h = take_all (n * record_size) card (omega arith)

-- i slots behind the first p, and then m more
pub slots-more : (p i m : ℕ) (card : List ℕ)
    → slots_from p (i + m) card ≡ slots_from p i card ++ take (m * record_size) (drop (i * record_size) (drop (p * record_size) card))
slots-more p i m card =
    let both : (i + m) * record_size ≡ i * record_size + m * record_size = omega arith in
    ap (λ (n : ℕ). take n (drop (p * record_size) card)) both ∙ take-add (i * record_size) (m * record_size) (drop (p * record_size) card)

-- ---- where f keeps the length of a slot

module _ (f : List ℕ → List ℕ) (kept : (r : List ℕ) → length (f r) ≡ length r) where
  -- a whole card

  each-size : (card : List ℕ) → length (each_by f card) ≡ length card
  each-size card =
      each-kept erasure_bytes f card kept (record_count (length card))
      ∙ ap length (take_all (record_count (length card) * record_size) card (omega arith))

  each-parts : (a b : List ℕ) (j : ℕ) → length a ≡ j * record_size → each_by f (a ++ b) ≡ each_by f a ++ each_by f b
  each-parts a b j whole = in_parts (appended f) a b j whole [] ∙ each-front erasure_bytes f (each_by f a) b (record_count (length b))

  each-slot : (card : List ℕ) (i : ℕ) → i < record_count (length card) → record_at (each_by f card) i ≡ f (record_at card i)
  each-slot card =
      each_at erasure_bytes f card record_size (record_count (length card)) (λ i h. omega (arith, size i)) (λ i h. omega (arith, size i))
      (record_count (length card)) (omega arith)
    where
      size : (i : ℕ) → length (f (record_at card i)) ≡ min record_size (length card - i * record_size)
      size i = kept (record_at card i) ∙ simp (length-take, length-drop)

  each_again : ((r : List ℕ) → f (f r) ≡ f r) → (card : List ℕ) → each_by f (each_by f card) ≡ each_by f card
  each_again again card =
      ap (λ (n : ℕ). over_first erasure_bytes (appended f) [] (each_by f card) (record_count n)) (each-size card)
      ∙ over-same erasure_bytes (appended f) [] (each_by f card) card (record_count (length card))
      (λ i h u. ap (λ (x : List ℕ). u ++ x) (ap f (each-slot card i h) ∙ again (record_at card i)))

  -- the k slots behind the first i

  pub from-size : (i k : ℕ) (card : List ℕ) → length (from_by f i k card) ≡ length card
  from-size i k card =
      simp length-append
      (omega (
        arith,
        each-size (slots_from i k card),
        length-take (k * record_size) (drop (i * record_size) card),
        length-drop (k * record_size) (drop (i * record_size) card),
        length-take (i * record_size) card,
        length-drop (i * record_size) card,
      ))

  -- i slots behind the first p, and then m more
  module _ (p i : ℕ) (card : List ℕ) (h : (p + i) * record_size ≤ length card) where
    whole : length (slots_from p i card) ≡ i * record_size
    whole = simp (length-take, length-drop) (omega arith)

    abbrev head : List ℕ
    head = take (p * record_size) card ++ each_by f (slots_from p i card)

    abbrev rest : List ℕ
    rest = drop (i * record_size) (drop (p * record_size) card)

    cut : from_by f p i card ≡ head ++ rest
    cut = sym (append_assoc (take (p * record_size) card) (each_by f (slots_from p i card)) rest)

    size : length head ≡ (p + i) * record_size
    size =
        length-append (take (p * record_size) card) (each_by f (slots_from p i card))
        ∙ omega (arith, each-size (slots_from p i card), whole, length-take (p * record_size) card)

    -- what comes behind them is as it was
    pub from-rest : drop ((p + i) * record_size) (from_by f p i card) ≡ drop (i * record_size) (drop (p * record_size) card)
    from-rest = ap (drop ((p + i) * record_size)) cut ∙ drop_at head rest ((p + i) * record_size) size

    pub from_on : (m : ℕ) → from_by f (p + i) m (from_by f p i card) ≡ from_by f p (i + m) card
    from_on m =
        let both : i * record_size + m * record_size ≡ (i + m) * record_size = omega arith in
        let now = take (m * record_size) rest in
        let later = drop (m * record_size) rest in
        ap₂ (λ (x y : List ℕ). x ++ (each_by f (take (m * record_size) y) ++ drop (m * record_size) y))
        (ap (take ((p + i) * record_size)) cut ∙ take_at head rest ((p + i) * record_size) size) from-rest
        ∙ append_assoc (take (p * record_size) card) (each_by f (slots_from p i card)) (each_by f now ++ later)
        ∙ ap (λ (x : List ℕ). take (p * record_size) card ++ x) (sym (append_assoc (each_by f (slots_from p i card)) (each_by f now) later))
        ∙ ap₂ (λ (x y : List ℕ). take (p * record_size) card ++ (x ++ y))
        (sym (each-parts (slots_from p i card) now i whole) ∙ ap (each_by f) (sym (slots-more p i m card)))
        (drop-drop (m * record_size) (i * record_size) (drop (p * record_size) card) ∙ ap (λ (n : ℕ). drop n (drop (p * record_size) card)) both)

-- whatever f makes of a slot
module _ (f : List ℕ → List ℕ) where
  pub from-none : (i : ℕ) (card : List ℕ) → from_by f i 0 card ≡ card
  unfolding over_first
  from-none i card = take-append-drop (i * record_size) card

  pub from_all : (n : ℕ) (card : List ℕ) → record_count (length card) ≤ n → from_by f 0 n card ≡ each_by f card
  from_all n card h =
      ap₂ (λ (x y : List ℕ). each_by f x ++ y) (slots-all n card h) (drop_of_length-le card {i = n * record_size} (omega arith))
      ∙ append-nil (each_by f card)

-- ---- restored with each record's own r, and up to a longest reach

pub each-alone : EachAlone
each-alone card = record { size = each-size record_written written-size card; each = each-slot record_written written-size card }

pub restored-in-parts : RestoredInParts
restored-in-parts = each-parts record_written written-size

pub restored-in-parts-up-to : RestoredInPartsUpTo
restored-in-parts-up-to n = each-parts (record_written_up_to n) (up-to-size n)

pub card-again : CardAgain
card-again = each_again record_written written-size written-again

pub card-again-up-to : CardAgainUpTo
card-again-up-to n = each_again (record_written_up_to n) (up-to-size n) (up-to-again n)

pub card-not-otherwise : CardNotOtherwise
card-not-otherwise n card =
    let slot = each-slot (record_written_up_to n) (up-to-size n) card in
    record {
      size = each-size (record_written_up_to n) (up-to-size n) card;
      same = λ i k h e. slot i h ∙ ((not-otherwise n (record_at card i)).same k e).1 ∙ sym ((each-alone card).each i h);
      stays = λ i k h e. slot i h ∙ (not-otherwise n (record_at card i)).stays k e;
    }

-- up to two each record gets its own r
pub written-two : record_written_up_to most_changes ≡ record_written
written-two = fun_ext (λ r. (up-to-two r).1)

pub card-up-to-two : CardUpToTwo
card-up-to-two s card = (ap (λ (f : List ℕ → List ℕ). each_by f card) written-two, progress-two s card)
