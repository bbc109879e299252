-- The questions of a conversion over a card that comes in parts: what they find in parts is what they find in the whole card, and that is
-- the conversion's verdict and the first offending record. Assumes nothing.
use Rattle.std.proofs.Common.{Ok, Err}
use Rattle.field.proofs.Base.{◌≡◌, refl, sym, ap, ◌∙◌, subst, Bool, true, false, List, [], ◌∷◌, ◌++◌, ◌⊎◌, inl, inr, ⊎_elim, ℕ, zero, suc, ◌+◌, ◌-◌}
use Rattle.field.proofs.Base.{◌*◌, ◌/◌, ◌%◌, ◌≤◌, ◌<◌, min, ℕ_discrete, add-zero, arith, ltb-true, ltb-false, eq-eqb, ne_eqb, eqb-true, eqb, ltb}
use Rattle.field.proofs.Base.{length, get_or}
use native.Mathlib.Nat.{div-mul-le_self}
use borrow.Author.Count.{below_more}
use Rattle.field.specs.Question.{ask}
use Rattle.field.specs.declared.Question.TheVariants.{Length}
use Rattle.field.proofs.Ask.{ask-yes, ask-next}
use Rattle.card.specs.declared.parts.Findings.{Findings}
use Rattle.card.specs.Record.{size_of, erasure_bytes}
use Rattle.card.specs.Slots.{slot_in, slot_count, over_first, appended}
use Rattle.card.specs.Conversion.{old_erasure_bytes, converted, converted_card, blank_or, at_most_four, card_asked, four_asked}
use Rattle.card.specs.inner.Leading.{every, card_passes}
use Rattle.card.specs.Leading.{leading, answers, slot_passes, verdict_at}
use Rattle.card.specs.Findings.{nothing_found, slot_found, part_found, found_verdict, slot_answer}
use Rattle.card.specs.Findings.{FoundInParts, NumberIs, ToNewInParts, ToOldInParts}
use Rattle.card.proofs.Folding.{whole_parts, rest-two, each-front}
use Rattle.card.proofs.Leading.{passed_start, one_more_lem}
use Rattle.card.proofs.Converting.{card-whole, lengths-whole, lengths-are, asked-refused, asked-verdict, passed-out, new-asked, old-asked}

-- ---- a slot more

abbrev at : ℕ → ℕ → ℕ → Findings
at n p f = record { slots = n; passed = p; first = f }

module _ (k : ℕ) (s : Findings) (slot : List ℕ) where
  slot-found : ((slot_passes k slot < s.passed) × (slot_found k s slot ≡ at (s.slots + 1) (slot_passes k slot) (s.slots + 1)))
      ⊎ ((s.passed ≤ slot_passes k slot) × (slot_found k s slot ≡ at (s.slots + 1) s.passed s.first))
  unfolding slot_found
  slot-found = go (ltb (slot_passes k slot) s.passed) refl
    where
      go : (b : Bool) → ltb (slot_passes k slot) s.passed ≡ b
          → ((slot_passes k slot < s.passed) × (slot_found k s slot ≡ at (s.slots + 1) (slot_passes k slot) (s.slots + 1)))
          ⊎ ((s.passed ≤ slot_passes k slot) × (slot_found k s slot ≡ at (s.slots + 1) s.passed s.first))
      go true e = inl (ltb-true _ _ e, rw e)
      go false e = inr (ltb-false _ _ e, rw e)

  -- a is what `slot_passed` says of it
  module _ (a : ℕ) (ea : a ≡ slot_passes k slot) where
    pub found-fewer : a < s.passed → at (s.slots + 1) a (s.slots + 1) ≡ slot_found k s slot
    found-fewer h =
        ⊎_elim (λ w. ap (λ (x : ℕ). at (s.slots + 1) x (s.slots + 1)) ea ∙ sym w.1) (λ w. absurd (omega (arith, w.0))) slot-found

    pub found-kept : s.passed ≤ a → at (s.slots + 1) s.passed s.first ≡ slot_found k s slot
    found-kept h = ⊎_elim (λ w. absurd (omega (arith, w.0))) (λ w. sym w.1) slot-found

-- ---- slot after slot

-- as many slots as the part has are no more than its bytes, and stand in it
pub slots-fit : (k : ℕ) (part : List ℕ) (s : ℕ) → s ≡ size_of k → length part / s * size_of k ≤ length part
slots-fit k part s e = subst (λ (x : ℕ). length part / s * x ≤ length part) e (div-mul-le_self (length part) s)

-- the first n slots of a part
abbrev pub slots_found : ℕ → Findings → List ℕ → ℕ → Findings
slots_found k s part n = over_first k (slot_found k) s part n

module _ (k : ℕ) (s : Findings) (part : List ℕ) where
  -- the slots are counted
  pub found-slots : (n : ℕ) → (slots_found k s part n).slots ≡ s.slots + n
  unfolding over_first
  found-slots zero = sym (add-zero s.slots)
  found-slots (suc n) =
      let u = slots_found k s part n in
      ⊎_elim (λ w. ap (λ (v : Findings). v.slots) w.1 ∙ omega (arith, found-slots n))
      (λ w. ap (λ (v : Findings). v.slots) w.1 ∙ omega (arith, found-slots n)) (slot-found k u (slot_in k part n))

  -- the fewest questions that a slot passes
  found-least : s.passed ≤ 4 → (n : ℕ) → (slots_found k s part n).passed ≡ min s.passed (card_passes k part n)
  unfolding over_first
  found-least h zero = omega (arith, passed_start k part)
  found-least h (suc n) =
      let u = slots_found k s part n in
      let e = found-least h n in
      let m = one_more_lem k part n in
      ⊎_elim (λ w. ap (λ (v : Findings). v.passed) w.1 ∙ omega (arith, e, m, w.0))
      (λ w. ap (λ (v : Findings). v.passed) w.1 ∙ omega (arith, e, m, w.0)) (slot-found k u (slot_in k part n))

leading-most : (bs : List Bool) → leading bs ≤ length bs
leading-most [] = omega arith
leading-most (true ∷ bs) = omega (arith, leading-most bs)
leading-most (false ∷ bs) = omega arith

passes-most : (k : ℕ) (card : List ℕ) (n : ℕ) → card_passes k card n ≤ 4
unfolding card_passes
passes-most k card n = leading-most (answers k at_most_four (λ p. every k p card n))

found_passed : (k : ℕ) (card : List ℕ) (n : ℕ) → (slots_found k nothing_found card n).passed ≡ card_passes k card n
found_passed k card n = found-least k nothing_found card (omega arith) n ∙ omega (arith, passes-most k card n)

-- a card that comes whole
pub found-card : (k : ℕ) (card : List ℕ) (s u : Findings) → s ≡ nothing_found → u ≡ part_found k s card
    → u.passed ≡ card_passes k card (slot_count k (length card))
found-card k card s u es eu =
    ap (λ (v : Findings). v.passed) (eu ∙ ap (λ (v : Findings). part_found k v card) es) ∙ found_passed k card (slot_count k (length card))

-- ---- two parts, the first of whole slots

module _ (k : ℕ) (a b : List ℕ) (w : length a % size_of k ≡ 0) where
  whole : length a ≡ slot_count k (length a) * size_of k
  whole = card-whole k (length a) (size_of k) refl w

  converted-both : (j : ℕ) → converted_card k j (a ++ b) ≡ converted_card k j a ++ converted_card k j b
  converted-both j =
      whole_parts k (appended (converted k j)) a b (slot_count k (length a)) whole []
      ∙ each-front k (converted k j) (converted_card k j a) b (slot_count k (length b))

  passes-two : card_passes k (a ++ b) (slot_count k (length (a ++ b)))
      ≡ min (card_passes k a (slot_count k (length a))) (card_passes k b (slot_count k (length b)))
  passes-two =
      let n = slot_count k (length a) in
      let m = slot_count k (length b) in
      sym (found_passed k (a ++ b) (slot_count k (length (a ++ b))))
      ∙ ap (λ (v : Findings). v.passed) (whole_parts k (slot_found k) a b n whole nothing_found)
      ∙ found-least k (part_found k nothing_found a) b (omega (arith, found_passed k a n, passes-most k a n)) m
      ∙ ap (λ (x : ℕ). min x (card_passes k b m)) (found_passed k a n)

pub found-in-parts : FoundInParts
found-in-parts k s a b w = whole_parts k (slot_found k) a b (slot_count k (length a)) (whole k a b w) s

-- ---- the verdict

pub verdict-rest : (s : Findings) (rest : ℕ) → (rest ≡ 0 → ⊥) → Err Length ≡ found_verdict s rest
verdict-rest s rest h = sym (ap (λ (x : Bool). ask x Length (verdict_at s.passed)) (ne_eqb rest 0 h))

pub verdict-none : (s : Findings) (rest : ℕ) → rest ≡ 0 → verdict_at s.passed ≡ found_verdict s rest
verdict-none s rest h = sym (ap (λ (x : Bool). ask x Length (verdict_at s.passed)) (eq-eqb rest 0 h))

module _ (k j : ℕ) (card : List ℕ) where
  -- the output has the right length
  right : ℕ
  right = slot_count k (length card) * size_of j

  verdict-is : found_verdict (part_found k nothing_found card) (length card % size_of k) ≡ card_asked k j card right (four_asked k card)
  unfolding right
  verdict-is = go (ℕ_discrete (length card % size_of k) 0)
    where
      s : Findings
      s = part_found k nothing_found card

      go : Dec (length card % size_of k ≡ 0)
          → found_verdict s (length card % size_of k) ≡ card_asked k j card right (four_asked k card)
      go (yes e) =
          sym (verdict-none s (length card % size_of k) e)
          ∙ asked-verdict k j card right
          (lengths-are k (length card) (size_of k) refl j right true e (sym (eq-eqb right right refl))) (size_of k) refl s.passed
          (found_passed k card (slot_count k (length card))) (verdict_at s.passed) refl
      go (no e) =
          sym (verdict-rest s (length card % size_of k) e)
          ∙ asked-refused k j card right (lengths-whole k (length card) (size_of k) refl j right e)

verdict-four : (n : ℕ) → verdict_at n ≡ (Ok tt) → 4 ≤ n
verdict-four zero e = let z : ◌≡◌ {A = ℕ} 0 1 = cc in omega arith
verdict-four (suc zero) e = let z : ◌≡◌ {A = ℕ} 0 1 = cc in omega arith
verdict-four (suc (suc zero)) e = let z : ◌≡◌ {A = ℕ} 0 1 = cc in omega arith
verdict-four (suc (suc (suc zero))) e = let z : ◌≡◌ {A = ℕ} 0 1 = cc in omega arith
verdict-four (suc (suc (suc (suc n)))) e = omega arith

-- a card that passes is whole slots that pass all four questions, and the other way round
module _ (k j : ℕ) (card : List ℕ) where
  n : ℕ
  n = slot_count k (length card)

  passed-tells : (m : ℕ) → card_asked k j card m (four_asked k card) ≡ (Ok tt) → (length card % size_of k ≡ 0) × (4 ≤ card_passes k card n)
  unfolding n right
  passed-tells m p =
      let s = part_found k nothing_found card in
      let rest = length card % size_of k in
      let e : right k j card ≡ m = sym (passed-out k j card m (four_asked k card) p) in
      let v : found_verdict s rest ≡ (Ok tt) = verdict-is k j card ∙ ap (λ (x : ℕ). card_asked k j card x (four_asked k card)) e ∙ p in
      let four = verdict-four s.passed (ask-next (eqb rest 0) Length (verdict_at s.passed) v) in
      (eqb-true rest 0 (ask-yes (eqb rest 0) Length (verdict_at s.passed) v), omega (arith, four, found_passed k card n))

  tells-passed : length card % size_of k ≡ 0 → 4 ≤ card_passes k card n
      → card_asked k j card (right k j card) (four_asked k card) ≡ (Ok tt)
  unfolding n right
  tells-passed e h =
      let s = part_found k nothing_found card in
      let four : s.passed ≡ 4 = omega (arith, h, found_passed k card n, passes-most k card n) in
      sym (verdict-is k j card) ∙ sym (verdict-none s (length card % size_of k) e) ∙ ap verdict_at four

module _ (k j : ℕ) (a b : List ℕ) (m : ℕ) (w : length a % size_of k ≡ 0)
    (p : card_asked k j (a ++ b) m (four_asked k (a ++ b)) ≡ (Ok tt)) where
  told : (length (a ++ b) % size_of k ≡ 0) × (4 ≤ card_passes k (a ++ b) (slot_count k (length (a ++ b))))
  unfolding n
  told = passed-tells k j (a ++ b) m p

  front-passes : card_asked k j a (slot_count k (length a) * size_of j) (four_asked k a) ≡ (Ok tt)
  unfolding n right
  front-passes = tells-passed k j a w (omega (arith, told.1, passes-two k a b w))

  behind-passes : card_asked k j b (slot_count k (length b) * size_of j) (four_asked k b) ≡ (Ok tt)
  unfolding n right
  behind-passes = tells-passed k j b (sym (rest-two k a b (slot_count k (length a)) (whole k a b w)) ∙ told.0) (omega (arith, told.1, passes-two k a b w))

pub to-new-in-parts : ToNewInParts
unfolding right
to-new-in-parts = (
  λ card. verdict-is old_erasure_bytes erasure_bytes card ∙ new-asked card _,
  λ a b m w p.
      let q = new-asked (a ++ b) m ∙ p in
      record {
        front = sym (new-asked a _) ∙ front-passes old_erasure_bytes erasure_bytes a b m w q;
        behind = sym (new-asked b _) ∙ behind-passes old_erasure_bytes erasure_bytes a b m w q;
        both = converted-both old_erasure_bytes a b w erasure_bytes;
      },
)

pub to-old-in-parts : ToOldInParts
unfolding right
to-old-in-parts = (
  λ card. verdict-is erasure_bytes old_erasure_bytes card ∙ old-asked card _,
  λ a b m w p.
      let q = old-asked (a ++ b) m ∙ p in
      record {
        front = sym (old-asked a _) ∙ front-passes erasure_bytes old_erasure_bytes a b m w q;
        behind = sym (old-asked b _) ∙ behind-passes erasure_bytes old_erasure_bytes a b m w q;
        both = converted-both erasure_bytes a b w old_erasure_bytes;
      },
)

-- ---- the first offending record

module _ (k : ℕ) (card : List ℕ) where
  passes : ℕ → ℕ
  passes i = slot_passes k (slot_in k card i)

  -- slot f, counted from 1, is the first of n slots that passes p questions, and none passes fewer
  record Named (n p f : ℕ) : Type 0 where
    low : 1 ≤ f
    inside : f ≤ n
    here : passes (f - 1) ≡ p
    before : (i : ℕ) → i < f - 1 → p < passes i

  record Least (n : ℕ) (s : Findings) : Type 0 where
    most : s.passed ≤ 4
    least : (i : ℕ) → i < n → s.passed ≤ passes i
    named : s.passed < 4 → Named n s.passed s.first
    none : s.passed ≡ 4 → s.first ≡ 0

  module _ (n : ℕ) (s : Findings) (L : Least n s) (e : s.slots ≡ n) where
    least-fewer : passes n < s.passed → Least (suc n) (at (s.slots + 1) (passes n) (s.slots + 1))
    least-fewer h =
        let back : s.slots + 1 - 1 ≡ n = omega arith in
        record {
          most = omega (arith, L.most);
          least = λ i l. below_more (λ (x : ℕ). passes n ≤ passes x) n (λ x u. omega (arith, L.least x u)) (omega arith) i (omega arith);
          named = λ u. record {
            low = omega arith;
            inside = omega arith;
            here = ap passes back;
            before = λ i l. omega (arith, L.least i (omega arith));
          };
          none = λ u. absurd (omega (arith, L.most));
        }

    least_kept : s.passed ≤ passes n → Least (suc n) (at (s.slots + 1) s.passed s.first)
    least_kept h =
        record {
          most = L.most;
          least = λ i l. below_more (λ (x : ℕ). s.passed ≤ passes x) n L.least h i (omega arith);
          named = λ u.
              let N = L.named u in
              record { low = N.low; inside = omega (arith, N.inside); here = N.here; before = N.before };
          none = L.none;
        }

    least_more : Least (suc n) (slot_found k s (slot_in k card n))
    unfolding passes
    least_more =
        ⊎_elim (λ w. subst (Least (suc n)) (sym w.1) (least-fewer w.0)) (λ w. subst (Least (suc n)) (sym w.1) (least_kept w.0))
        (slot-found k s (slot_in k card n))

  found : (n : ℕ) → Least n (slots_found k nothing_found card n)
  unfolding over_first
  found zero =
      record {
        most = omega arith;
        least = λ i h. absurd (omega arith);
        named = λ h. absurd (omega arith);
        none = λ h. refl;
      }
  found (suc n) =
      least_more n (slots_found k nothing_found card n) (found n) (found-slots k nothing_found card n ∙ omega arith)

leading-no : (bs : List Bool) → leading bs < length bs → get_or bs (leading bs) true ≡ false
leading-no [] h = absurd (omega arith)
leading-no (true ∷ bs) h = leading-no bs (omega arith)
leading-no (false ∷ bs) h = refl

leading-yes : (bs : List Bool) (i : ℕ) → i < leading bs → get_or bs i true ≡ true
leading-yes [] i h = refl
leading-yes (true ∷ bs) zero h = refl
leading-yes (true ∷ bs) (suc i) h = leading-yes bs i (omega arith)
leading-yes (false ∷ bs) i h = absurd (omega arith)

slot-no : (k : ℕ) (slot : List ℕ) (a : ℕ) → slot_passes k slot ≡ a → a < 4 → slot_answer k a slot ≡ false
unfolding slot_passes
slot-no k slot a e h =
    subst (λ (x : ℕ). slot_answer k x slot ≡ false) e (leading-no (answers k at_most_four (λ p. blank_or k p slot)) (omega arith))

slot-yes : (k : ℕ) (slot : List ℕ) (a : ℕ) → a < slot_passes k slot → slot_answer k a slot ≡ true
unfolding slot_passes
slot-yes k slot a h = leading-yes (answers k at_most_four (λ p. blank_or k p slot)) a h

pub number_is : NumberIs
unfolding passes
number_is k card =
    let s = part_found k nothing_found card in
    let L = found k card (slot_count k (length card)) in (
      λ h.
          let N = L.named h in
          record {
            low = N.low;
            inside = N.inside;
            refused = slot-no k (slot_in k card (s.first - 1)) s.passed N.here h;
            before = λ i l. slot-yes k (slot_in k card i) s.passed (N.before i l);
            earlier = λ b l i u. slot-yes k (slot_in k card i) b (omega (arith, L.least i u));
          },
      L.none,
    )
