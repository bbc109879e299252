-- There and back, over whole cards. Assumes nothing.
use Rattle.std.proofs.Common.{Ok, Err}
use Rattle.field.specs.Question.{Verdict}
use Rattle.field.proofs.Base.{◌≡◌, refl, sym, ap, ap₂, ◌∙◌, subst, Bool, true, ◌&&◌, List, ◌++◌, ℕ, zero, suc, ◌*◌, ◌/◌, ◌%◌, ◌≤◌, ◌<◌, zero-mul}
use Rattle.field.proofs.Base.{arith, eq-eqb, eqb, length, take, take_all}
use native.Mathlib.Nat.{suc-mul, mul-div_cancel, mul-mod_left}
use lib.Seq.{take-add}
use Rattle.field.specs.Question.{accepted, ask}
use Rattle.field.specs.declared.Question.{Question}
use Rattle.field.specs.declared.Question.TheVariants.{Width, Length, ErasureCount, Padding, FourErasures}
use Rattle.field.proofs.Ask.{ask-yes, ask-next}
use Rattle.code.specs.Call.{written, done}
use Rattle.card.specs.Record.{size_of, has_width, few_in, padded_in, erasure_bytes}
use Rattle.card.specs.Slots.{slot_in, slot_count, over_first}
use Rattle.card.specs.Conversion.{old_erasure_bytes, converted, converted_card, lengths_fit, blank_or, every_record, at_most_four}
use Rattle.card.specs.inner.Leading.{converted_slots, every}
use Rattle.card.specs.Conversion.{card_asked, four_asked, to_new_asked, to_new_of, to_new_written, to_old_asked, to_old_of, to_old_written}
use Rattle.card.specs.Conversion.{ThereAndBack, BackAndThere, SameSlot, SameSlots, NewSame, OldSame}
use Rattle.card.proofs.Slots.{slot-size}
use Rattle.card.proofs.Converted.{converted-size, slots-size, converted-slot}
use Rattle.card.proofs.Converting.{passed-card, passed-out, every-at, every-all}
use Rattle.card.proofs.Editions.{Slot, to_new, to_old, twins, slot-new, slot-old, slot-twin, same-slot}

-- ---- the slots of a converted card

-- a card whose slots, converted, are those of another is converted into the other
module _ (k j : ℕ) (card other : List ℕ) (n : ℕ) (same : (i : ℕ) → i < n → converted k j (slot_in k card i) ≡ slot_in j other i) where
  first-slots : (m : ℕ) → m ≤ n → converted_slots k j card m ≡ take (m * size_of j) other
  unfolding over_first
  first-slots zero h = sym (ap (λ (x : ℕ). take x other) (zero-mul (size_of j)))
  first-slots (suc m) h =
      ap₂ ◌++◌ (first-slots m (omega arith)) (same m h)
      ∙ sym (take-add (m * size_of j) (size_of j) other)
      ∙ ap (λ (x : ℕ). take x other) (sym (suc-mul m (size_of j)))

  all_slots : length other ≡ n * size_of j → converted_slots k j card n ≡ other
  all_slots size = first-slots n (omega arith) ∙ take_all (n * size_of j) other (omega arith)

-- ---- the questions, slot by slot

-- a card of n slots that passes questions 1, 3 and 4, and an output for it
record Asked (k j : ℕ) (card : List ℕ) (m n : ℕ) : Type 0 where
  card-size : length card ≡ n * size_of k
  out-size : m ≡ n * size_of j
  slots : (i : ℕ) → i < n → Slot k (slot_in k card i)

module _ (k j : ℕ) (card : List ℕ) (m : ℕ) (next : Verdict) where
  asked-tells : card_asked k j card m next ≡ (Ok tt) → Asked k j card m (slot_count k (length card))
  asked-tells p =
      let p1 = ask-next (lengths_fit k j (length card) m) Length _ p in
      let p2 = ask-next (every_record k has_width card) Width _ p1 in
      let p3 = ask-next (every_record k (few_in k) card) ErasureCount _ p2 in
      let n = slot_count k (length card) in
      record {
        card-size = passed-card k j card m next p;
        out-size = passed-out k j card m next p;
        slots = λ i h. record {
          wide = every-at k has_width card n (ask-yes (every_record k has_width card) Width _ p1) i h;
          few = every-at k (few_in k) card n (ask-yes (every_record k (few_in k) card) ErasureCount _ p2) i h;
          padded = every-at k (padded_in k) card n (ask-yes (every_record k (padded_in k) card) Padding _ p3) i h;
        };
      }

  next-tells : card_asked k j card m next ≡ (Ok tt) → next ≡ (Ok tt)
  next-tells p =
      let p1 = ask-next (lengths_fit k j (length card) m) Length _ p in
      let p2 = ask-next (every_record k has_width card) Width _ p1 in
      let p3 = ask-next (every_record k (few_in k) card) ErasureCount _ p2 in
      ask-next (every_record k (padded_in k) card) Padding _ p3

-- the number of slots of a card
count-is : (k : ℕ) (card : List ℕ) (n : ℕ) → length card ≡ n * size_of k → slot_count k (length card) ≡ n
count-is k card n size = ap (λ (x : ℕ). x / size_of k) size ∙ mul-div_cancel n (omega arith)

every-slot : (k : ℕ) (p : List ℕ → Bool) (card : List ℕ) (n : ℕ) → length card ≡ n * size_of k
    → ((i : ℕ) → i < n → blank_or k p (slot_in k card i) ≡ true) → every_record k p card ≡ true
every-slot k p card n size f = ap (every k p card) (count-is k card n size) ∙ every-all k p card n f

pass : (b : Bool) (q : Question) (next : Verdict) → b ≡ true → ask b q next ≡ next
pass b q next e = ap (λ (x : Bool). ask x q next) e

module _ (k j : ℕ) (card : List ℕ) (m n : ℕ) (A : Asked k j card m n) (next : Verdict) where
  lengths-fit : lengths_fit k j (length card) m ≡ true
  lengths-fit =
      ap (λ (x : Bool). x && eqb m (slot_count k (length card) * size_of j))
      (eq-eqb (length card % size_of k) 0 (ap (λ (x : ℕ). x % size_of k) A.card-size ∙ mul-mod_left n (size_of k)))
      ∙ eq-eqb m (slot_count k (length card) * size_of j)
      (A.out-size ∙ ap (λ (x : ℕ). x * size_of j) (sym (count-is k card n A.card-size)))

  asked-passes : card_asked k j card m next ≡ next
  asked-passes =
      pass (lengths_fit k j (length card) m) Length _ lengths-fit
      ∙ pass (every_record k has_width card) Width _ (every-slot k has_width card n A.card-size (λ i h. (A.slots i h).wide))
      ∙ pass (every_record k (few_in k) card) ErasureCount _ (every-slot k (few_in k) card n A.card-size (λ i h. (A.slots i h).few))
      ∙ pass (every_record k (padded_in k) card) Padding _ (every-slot k (padded_in k) card n A.card-size (λ i h. (A.slots i h).padded))

-- ---- a card in both editions

record Cards (old new : List ℕ) (n : ℕ) : Type 0 where
  old-size : length old ≡ n * size_of old_erasure_bytes
  new-size : length new ≡ n * size_of erasure_bytes
  twin : (i : ℕ) → i < n → slot_in erasure_bytes new i ≡ to_new (slot_in old_erasure_bytes old i)
  slots : (i : ℕ) → i < n → Slot old_erasure_bytes (slot_in old_erasure_bytes old i)

module _ (old new : List ℕ) (n : ℕ) (C : Cards old new n) where
  old-slot : (i : ℕ) → i < n → length (slot_in old_erasure_bytes old i) ≡ size_of old_erasure_bytes
  old-slot i h = slot-size old_erasure_bytes old n C.old-size i h

  -- each is accepted, and converted into the other
  new-passes : (m : ℕ) → m ≡ n * size_of erasure_bytes → to_new_asked old m ≡ (Ok tt)
  unfolding to_new_asked
  new-passes m size =
      asked-passes old_erasure_bytes erasure_bytes old m n (record { card-size = C.old-size; out-size = size; slots = C.slots }) (Ok tt)

  new_is : converted_card old_erasure_bytes erasure_bytes old ≡ new
  new_is =
      ap (converted_slots old_erasure_bytes erasure_bytes old) (count-is old_erasure_bytes old n C.old-size)
      ∙ all_slots old_erasure_bytes erasure_bytes old new n (λ i h. sym (C.twin i h)) C.new-size

  taken : (i : ℕ) → i < n
      → Slot erasure_bytes (to_new (slot_in old_erasure_bytes old i))
      × (blank_or erasure_bytes at_most_four (to_new (slot_in old_erasure_bytes old i)) ≡ true)
  taken i h = slot-new (slot_in old_erasure_bytes old i) (old-slot i h) (C.slots i h)

  old-passes : (m : ℕ) → m ≡ n * size_of old_erasure_bytes → to_old_asked new m ≡ (Ok tt)
  unfolding to_old_asked
  old-passes m size =
      asked-passes erasure_bytes old_erasure_bytes new m n
      (record { card-size = C.new-size; out-size = size; slots = λ i h. subst (Slot erasure_bytes) (sym (C.twin i h)) (taken i h).0 })
      (four_asked erasure_bytes new)
      ∙ pass (every_record erasure_bytes at_most_four new) FourErasures (Ok tt)
      (every-slot erasure_bytes at_most_four new n C.new-size (λ i h. ap (blank_or erasure_bytes at_most_four) (C.twin i h) ∙ (taken i h).1))

  old-is : converted_card erasure_bytes old_erasure_bytes new ≡ old
  old-is =
      ap (converted_slots erasure_bytes old_erasure_bytes new) (count-is erasure_bytes new n C.new-size)
      ∙ all_slots erasure_bytes old_erasure_bytes new old n
      (λ i h. ap to_old (C.twin i h) ∙ (twins (slot_in old_erasure_bytes old i) (omega (arith, old-slot i h))).back) C.old-size

  same-slots : SameSlots old new
  same-slots i h =
      let l : i < n = subst (λ (x : ℕ). i < x) (count-is old_erasure_bytes old n C.old-size) h in
      subst (SameSlot (slot_in old_erasure_bytes old i)) (sym (C.twin i l))
      (same-slot (slot_in old_erasure_bytes old i) (old-slot i l) (C.slots i l))

-- an old card that is accepted, and its conversion
new-cards : (card : List ℕ) (m : ℕ) → to_new_asked card m ≡ (Ok tt)
    → Cards card (converted_card old_erasure_bytes erasure_bytes card) (slot_count old_erasure_bytes (length card))
unfolding to_new_asked
new-cards card m p =
    let k = old_erasure_bytes in
    let n = slot_count k (length card) in
    let A = asked-tells k erasure_bytes card m (Ok tt) p in
    let sized = converted-size k erasure_bytes refl (omega arith) (omega arith) in
    record {
      old-size = A.card-size;
      new-size = slots-size k erasure_bytes card sized n A.card-size n (omega arith);
      twin = converted-slot k erasure_bytes card sized n A.card-size n (omega arith);
      slots = A.slots;
    }

-- a new card that is accepted, and its conversion
module _ (card : List ℕ) (m : ℕ) (p : to_old_asked card m ≡ (Ok tt)) where
  n : ℕ
  n = slot_count erasure_bytes (length card)

  asked : card_asked erasure_bytes old_erasure_bytes card m (four_asked erasure_bytes card) ≡ (Ok tt)
  unfolding to_old_asked
  asked = p

  A : Asked erasure_bytes old_erasure_bytes card m n
  unfolding n
  A = asked-tells erasure_bytes old_erasure_bytes card m (four_asked erasure_bytes card) asked

  sized : (s : List ℕ) → length s ≡ size_of erasure_bytes → length (to_old s) ≡ size_of old_erasure_bytes
  sized = converted-size erasure_bytes old_erasure_bytes refl (omega arith) (omega arith)

  size : (i : ℕ) → i < n → length (slot_in erasure_bytes card i) ≡ size_of erasure_bytes
  size i h = slot-size erasure_bytes card n A.card-size i h

  four : (i : ℕ) → i < n → blank_or erasure_bytes at_most_four (slot_in erasure_bytes card i) ≡ true
  unfolding n
  four =
      every-at erasure_bytes at_most_four card n
      (ask-yes (every_record erasure_bytes at_most_four card) FourErasures (Ok tt)
      (next-tells erasure_bytes old_erasure_bytes card m (four_asked erasure_bytes card) asked))

  slot : (i : ℕ) → i < n
      → slot_in old_erasure_bytes (converted_slots erasure_bytes old_erasure_bytes card n) i ≡ to_old (slot_in erasure_bytes card i)
  slot = converted-slot erasure_bytes old_erasure_bytes card sized n A.card-size n (omega arith)

  back : (i : ℕ) → i < n → to_new (to_old (slot_in erasure_bytes card i)) ≡ slot_in erasure_bytes card i
  back i h = slot-twin (slot_in erasure_bytes card i) (size i h) (A.slots i h) (four i h)

  old-cards : Cards (converted_slots erasure_bytes old_erasure_bytes card n) card n
  old-cards =
      record {
        old-size = slots-size erasure_bytes old_erasure_bytes card sized n A.card-size n (omega arith);
        new-size = A.card-size;
        twin = λ i h. sym (back i h) ∙ ap to_new (sym (slot i h));
        slots = λ i h. subst (Slot old_erasure_bytes) (sym (slot i h))
            (slot-old (to_old (slot_in erasure_bytes card i)) (sized (slot_in erasure_bytes card i) (size i h))
            (subst (Slot erasure_bytes) (sym (back i h)) (A.slots i h))
            (ap (blank_or erasure_bytes at_most_four) (back i h) ∙ four i h));
      }

-- ---- the demands

accepted-passed : (v : Verdict) → done v ≡ accepted 0 → v ≡ (Ok tt)
accepted-passed (Ok tt) e = refl
accepted-passed (Err q) e = cc

pub there_and_back : ThereAndBack
there_and_back card out back h l =
    let p = accepted-passed (to_new_asked card (length out)) h in
    let new = converted_card old_erasure_bytes erasure_bytes card in
    let C = new-cards card (length out) p in
    let q = old-passes card new _ C (length back) (l ∙ C.old-size) in
    subst (λ (x : List ℕ). (to_old_of x back ≡ accepted 0) × (to_old_written x back ≡ card)) (sym (ap (λ (v : Verdict). written v out new) p))
    (ap done q, ap (λ (v : Verdict). written v back (converted_card erasure_bytes old_erasure_bytes new)) q ∙ old-is card new _ C)

pub back-and-there : BackAndThere
unfolding n
back-and-there card out again h l =
    let p = accepted-passed (to_old_asked card (length out)) h in
    let old = converted_card erasure_bytes old_erasure_bytes card in
    let C = old-cards card (length out) p in
    let q = new-passes old card _ C (length again) (l ∙ C.new-size) in
    subst (λ (x : List ℕ). (to_new_of x again ≡ accepted 0) × (to_new_written x again ≡ card)) (sym (ap (λ (v : Verdict). written v out old) p))
    (ap done q, ap (λ (v : Verdict). written v again (converted_card old_erasure_bytes erasure_bytes old)) q ∙ new_is old card _ C)

pub new-same : NewSame
new-same card out h =
    let p = accepted-passed (to_new_asked card (length out)) h in
    let new = converted_card old_erasure_bytes erasure_bytes card in
    subst (SameSlots card) (sym (ap (λ (v : Verdict). written v out new) p)) (same-slots card new _ (new-cards card (length out) p))

pub old-same : OldSame
unfolding n
old-same card out h =
    let p = accepted-passed (to_old_asked card (length out)) h in
    let old = converted_card erasure_bytes old_erasure_bytes card in
    subst (λ (x : List ℕ). SameSlots x card) (sym (ap (λ (v : Verdict). written v out old) p))
    (same-slots old card _ (old-cards card (length out) p))
