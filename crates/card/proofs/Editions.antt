-- A slot of the old edition, and the same slot in the new one. Assumes nothing.
use Rattle.std.proofs.Common.{Ok}
use Rattle.field.specs.Question.{Verdict}
use Rattle.field.proofs.Base.{◌≡◌, refl, sym, ap, ap₂, ◌∙◌, Bool, true, false, ◌&&◌, ◌||◌, List, [], ◌∷◌, ℕ, zero, suc, ◌+◌, ◌-◌, ◌≤◌, ◌<◌, min}
use Rattle.field.proofs.Base.{arith, eq-eqb, le-leb, leb-true, eqb, length, get_or, take, drop, length-take, length-drop, drop-drop, get_or-take}
use Rattle.field.proofs.Base.{get_or-drop}
use lib.ListN.{get_or-replicate}
use Rattle.field.specs.Question.{Outcome, ask, after, is_width}
use Rattle.field.specs.declared.Question.TheVariants.{Width, Length, ErasureCount, Padding}
use Rattle.field.proofs.Ask.{and-true-left, and-true-right}
use Rattle.code.specs.Word.{places}
use Rattle.code.specs.Call.{max_erasures, restore_of}
use Rattle.card.specs.Record.{size_of, width_of, count_of, erasures_of, unused_in, word_in, tail_in, allowed_in, all_are}
use Rattle.card.specs.Record.{has_width, few_in, padded_in, asked_in, erasure_bytes, record_within_of, record_of}
use Rattle.card.specs.Slots.{blank_in}
use Rattle.card.specs.Conversion.{old_erasure_bytes, converted, blank_or, at_most_four, outcome_in, SameSlot}
use Rattle.card.proofs.Layouts.{all_replicate}
use Rattle.card.proofs.Blank.{blank-whole, blank-asked}
use Rattle.card.proofs.Converted.{converted-size}

-- the slot in the other edition
abbrev pub to_new : List ℕ → List ℕ
to_new r = converted old_erasure_bytes erasure_bytes r

abbrev pub to_old : List ℕ → List ℕ
to_old s = converted erasure_bytes old_erasure_bytes s

-- ---- byte by byte

module _ (a c d e f : ℕ) (rest : List ℕ) where
  same-unused : (b : ℕ) → b ≤ old_erasure_bytes
      → all_are 255 (unused_in erasure_bytes (a ∷ b ∷ c ∷ d ∷ e ∷ f ∷ 255 ∷ rest))
      ≡ all_are 255 (unused_in old_erasure_bytes (a ∷ b ∷ c ∷ d ∷ e ∷ f ∷ rest))
  same-unused zero h = refl
  same-unused (suc zero) h = refl
  same-unused (suc (suc zero)) h = refl
  same-unused (suc (suc (suc zero))) h = refl
  same-unused (suc (suc (suc (suc zero)))) h = refl
  same-unused (suc (suc (suc (suc (suc b))))) h = absurd (omega arith)

  same-erasures : (b : ℕ) → b ≤ old_erasure_bytes
      → erasures_of (a ∷ b ∷ c ∷ d ∷ e ∷ f ∷ 255 ∷ rest) ≡ erasures_of (a ∷ b ∷ c ∷ d ∷ e ∷ f ∷ rest)
  same-erasures zero h = refl
  same-erasures (suc zero) h = refl
  same-erasures (suc (suc zero)) h = refl
  same-erasures (suc (suc (suc zero))) h = refl
  same-erasures (suc (suc (suc (suc zero)))) h = refl
  same-erasures (suc (suc (suc (suc (suc b))))) h = absurd (omega arith)

-- the new slot s has the old one's bytes, and one more
pub record Twins (r s : List ℕ) : Type 0 where
  pub width : width_of s ≡ width_of r
  pub count : count_of s ≡ count_of r
  pub unused : count_of r ≤ old_erasure_bytes → all_are 255 (unused_in erasure_bytes s) ≡ all_are 255 (unused_in old_erasure_bytes r)
  pub erasures : count_of r ≤ old_erasure_bytes → erasures_of s ≡ erasures_of r
  pub body : drop 7 s ≡ drop 6 r
  pub all : all_are 255 s ≡ all_are 255 r
  pub back : to_old s ≡ r

pub twins : (r : List ℕ) → 6 ≤ length r → Twins r (to_new r)
unfolding converted
twins [] h = absurd (omega arith)
twins (a ∷ []) h = absurd (omega arith)
twins (a ∷ b ∷ []) h = absurd (omega arith)
twins (a ∷ b ∷ c ∷ []) h = absurd (omega arith)
twins (a ∷ b ∷ c ∷ d ∷ []) h = absurd (omega arith)
twins (a ∷ b ∷ c ∷ d ∷ e ∷ []) h = absurd (omega arith)
twins (a ∷ b ∷ c ∷ d ∷ e ∷ f ∷ rest) h =
    record {
      width = refl;
      count = refl;
      unused = same-unused a c d e f rest b;
      erasures = same-erasures a c d e f rest b;
      body = refl;
      all = refl;
      back = refl;
    }

-- a new slot whose byte 6 is 255 is one that was converted
pub twin-of : (s : List ℕ) → 7 ≤ length s → get_or s 6 0 ≡ 255 → to_new (to_old s) ≡ s
unfolding converted
twin-of [] h e = absurd (omega arith)
twin-of (a ∷ []) h e = absurd (omega arith)
twin-of (a ∷ b ∷ []) h e = absurd (omega arith)
twin-of (a ∷ b ∷ c ∷ []) h e = absurd (omega arith)
twin-of (a ∷ b ∷ c ∷ d ∷ []) h e = absurd (omega arith)
twin-of (a ∷ b ∷ c ∷ d ∷ x ∷ []) h e = absurd (omega arith)
twin-of (a ∷ b ∷ c ∷ d ∷ x ∷ f ∷ []) h e = absurd (omega arith)
twin-of (a ∷ b ∷ c ∷ d ∷ x ∷ f ∷ g ∷ rest) h e = ap (λ (y : ℕ). a ∷ b ∷ c ∷ d ∷ x ∷ f ∷ y ∷ rest) (sym e)

-- ---- what a conversion asks of a slot

-- questions 1, 3 and 4
pub record Slot (k : ℕ) (r : List ℕ) : Type 0 where
  pub wide : blank_or k has_width r ≡ true
  pub few : blank_or k (few_in k) r ≡ true
  pub padded : blank_or k (padded_in k) r ≡ true

-- nothing, where the slot is blank; else they are put to a record
module _ (k : ℕ) (r : List ℕ) where
  blank-says : blank_in k r ≡ true → (p : List ℕ → Bool) → blank_or k p r ≡ true
  blank-says e p = ap (λ (x : Bool). x || p r) e

  record-says : blank_in k r ≡ false → (p : List ℕ → Bool) → blank_or k p r ≡ p r
  record-says e p = ap (λ (x : Bool). x || p r) e

  record-said : blank_in k r ≡ false → (p : List ℕ → Bool) → p r ≡ blank_or k p r
  record-said e p = sym (record-says e p)

module _ (r : List ℕ) (size : length r ≡ size_of old_erasure_bytes) where
  T : Twins r (to_new r)
  T = twins r (omega arith)

  size-new : length (to_new r) ≡ size_of erasure_bytes
  size-new = converted-size old_erasure_bytes erasure_bytes refl (omega arith) (omega arith) r size

  pub same-blank : blank_in erasure_bytes (to_new r) ≡ blank_in old_erasure_bytes r
  same-blank =
      sym (blank-whole erasure_bytes (to_new r) (all_are 255 (to_new r)) size-new refl)
      ∙ T.all
      ∙ blank-whole old_erasure_bytes r (all_are 255 r) size refl

  same-wide : has_width (to_new r) ≡ has_width r
  same-wide = ap is_width T.width

  -- question 3 allows fewer in the old edition
  bounds : (k : ℕ) → allowed_in k (to_new r) ≡ allowed_in k r
  bounds k = ap (λ (m : ℕ). min k (max_erasures m)) T.width

  old-count : few_in old_erasure_bytes r ≡ true → count_of r ≤ old_erasure_bytes
  old-count h = omega (arith, leb-true (count_of r) (allowed_in old_erasure_bytes r) h)

  few-new : few_in old_erasure_bytes r ≡ true → few_in erasure_bytes (to_new r) ≡ true
  few-new h =
      le-leb (count_of (to_new r)) (allowed_in erasure_bytes (to_new r))
      (omega (arith, T.count, bounds erasure_bytes, leb-true (count_of r) (allowed_in old_erasure_bytes r) h))

  few-old : few_in erasure_bytes (to_new r) ≡ true → at_most_four (to_new r) ≡ true → few_in old_erasure_bytes r ≡ true
  few-old h o =
      le-leb (count_of r) (allowed_in old_erasure_bytes r)
      (omega (
        arith,
        T.count,
        bounds erasure_bytes,
        leb-true (count_of (to_new r)) (allowed_in erasure_bytes (to_new r)) h,
        leb-true (count_of (to_new r)) old_erasure_bytes o,
      ))

  at-most-four : count_of r ≤ old_erasure_bytes → at_most_four (to_new r) ≡ true
  at-most-four h = le-leb (count_of (to_new r)) old_erasure_bytes (omega (arith, T.count))

  same-tail : tail_in erasure_bytes (to_new r) ≡ tail_in old_erasure_bytes r
  same-tail =
      sym (drop-drop (places (width_of (to_new r))) 7 (to_new r))
      ∙ ap₂ (λ (m : ℕ) (l : List ℕ). drop (places m) l) T.width T.body
      ∙ drop-drop (places (width_of r)) 6 r

  same-padded : count_of r ≤ old_erasure_bytes → padded_in erasure_bytes (to_new r) ≡ padded_in old_erasure_bytes r
  same-padded h = ap₂ ◌&&◌ (T.unused h) (ap (all_are 0) same-tail)

  blank-new : blank_in old_erasure_bytes r ≡ true → blank_in erasure_bytes (to_new r) ≡ true
  blank-new e = same-blank ∙ e

  record-new : blank_in old_erasure_bytes r ≡ false → blank_in erasure_bytes (to_new r) ≡ false
  record-new e = same-blank ∙ e

  -- what the old edition takes, the new one takes, with at most four erasures
  pub slot-new : Slot old_erasure_bytes r → Slot erasure_bytes (to_new r) × (blank_or erasure_bytes at_most_four (to_new r) ≡ true)
  slot-new S = go (blank_in old_erasure_bytes r) refl
    where
      go : (b : Bool) → blank_in old_erasure_bytes r ≡ b → Slot erasure_bytes (to_new r) × (blank_or erasure_bytes at_most_four (to_new r) ≡ true)
      go true e =
          let says = blank-says erasure_bytes (to_new r) (blank-new e) in
          (record { wide = says has_width; few = says (few_in erasure_bytes); padded = says (padded_in erasure_bytes) }, says at_most_four)
      go false e =
          let says = record-says erasure_bytes (to_new r) (record-new e) in
          let said = record-said old_erasure_bytes r e in
          let few = said (few_in old_erasure_bytes) ∙ S.few in (
            record {
              wide = says has_width ∙ same-wide ∙ said has_width ∙ S.wide;
              few = says (few_in erasure_bytes) ∙ few-new few;
              padded = says (padded_in erasure_bytes) ∙ same-padded (old-count few) ∙ said (padded_in old_erasure_bytes) ∙ S.padded;
            },
            says at_most_four ∙ at-most-four (old-count few),
          )

  -- and the other way
  pub slot-old : Slot erasure_bytes (to_new r) → blank_or erasure_bytes at_most_four (to_new r) ≡ true → Slot old_erasure_bytes r
  slot-old S o = go (blank_in old_erasure_bytes r) refl
    where
      go : (b : Bool) → blank_in old_erasure_bytes r ≡ b → Slot old_erasure_bytes r
      go true e =
          let says = blank-says old_erasure_bytes r e in
          record { wide = says has_width; few = says (few_in old_erasure_bytes); padded = says (padded_in old_erasure_bytes) }
      go false e =
          let says = record-says old_erasure_bytes r e in
          let said = record-said erasure_bytes (to_new r) (record-new e) in
          let few = few-old (said (few_in erasure_bytes) ∙ S.few) (said at_most_four ∙ o) in
          record {
            wide = says has_width ∙ sym same-wide ∙ said has_width ∙ S.wide;
            few = says (few_in old_erasure_bytes) ∙ few;
            padded = says (padded_in old_erasure_bytes) ∙ sym (same-padded (old-count few)) ∙ said (padded_in erasure_bytes) ∙ S.padded;
          }

  -- ---- restoring it

  same_asked : few_in old_erasure_bytes r ≡ true → asked_in erasure_bytes (to_new r) ≡ asked_in old_erasure_bytes r
  unfolding asked_in
  same_asked h =
      let few = few_in erasure_bytes (to_new r) in
      let padded = padded_in erasure_bytes (to_new r) in
      ap₂ (λ (x y : Bool). ask x Length (ask y Width (ask few ErasureCount (ask padded Padding (Ok tt)))))
      (eq-eqb (length (to_new r)) (size_of erasure_bytes) size-new ∙ sym (eq-eqb (length r) (size_of old_erasure_bytes) size)) same-wide
      ∙ ap₂
      (λ (x y : Bool). ask (eqb (length r) (size_of old_erasure_bytes)) Length (ask (has_width r) Width (ask x ErasureCount (ask y Padding (Ok tt)))))
      (few-new h ∙ sym h) (same-padded (old-count h))

  same_word : word_in erasure_bytes (to_new r) ≡ word_in old_erasure_bytes r
  same_word = ap₂ (λ (m : ℕ) (l : List ℕ). take (places m) l) T.width T.body

  pub same-slot : Slot old_erasure_bytes r → SameSlot r (to_new r)
  unfolding record_of record_within_of
  same-slot S =
      record {
        blank = same-blank;
        width = T.width;
        word = same_word;
        erasures = λ e. T.erasures (old-count (few e));
        outcome = go (blank_in old_erasure_bytes r) refl;
      }
    where
      few : blank_in old_erasure_bytes r ≡ false → few_in old_erasure_bytes r ≡ true
      few e = record-said old_erasure_bytes r e (few_in old_erasure_bytes) ∙ S.few

      restored : Outcome
      restored = restore_of (width_of (to_new r)) (word_in erasure_bytes (to_new r)) (erasures_of (to_new r))

      go : (b : Bool) → blank_in old_erasure_bytes r ≡ b → record_of (to_new r) ≡ outcome_in old_erasure_bytes r
      go true e =
          sym (ap (λ (v : Verdict). after v restored) (blank-asked erasure_bytes (to_new r) (blank-new e)))
          ∙ ap (λ (v : Verdict). after v (restore_of (width_of r) (word_in old_erasure_bytes r) (erasures_of r)))
          (blank-asked old_erasure_bytes r e)
      go false e =
          ap (λ (v : Verdict). after v restored) (same_asked (few e))
          ∙ ap (λ (m : ℕ). after (asked_in old_erasure_bytes r) (restore_of m (word_in erasure_bytes (to_new r)) (erasures_of (to_new r)))) T.width
          ∙ ap₂ (λ (w es : List ℕ). after (asked_in old_erasure_bytes r) (restore_of (width_of r) w es)) same_word
          (T.erasures (old-count (few e)))

-- ---- the byte that is dropped

all-at : (x : ℕ) (ys : List ℕ) → all_are x ys ≡ true → (i : ℕ) → i < length ys → get_or ys i 0 ≡ x
all-at x ys h i l = ap (λ (zs : List ℕ). get_or zs i 0) (all_replicate x ys h) ∙ get_or-replicate (length ys) i x 0 l

module _ (s : List ℕ) (size : length s ≡ size_of erasure_bytes) where
  -- it is the last of the unused erasure bytes
  unused-last : count_of s ≤ old_erasure_bytes → all_are 255 (unused_in erasure_bytes s) ≡ true → get_or s 6 0 ≡ 255
  unused-last h t =
      let n = count_of s in
      let at : 2 + n + (4 - n) ≡ 6 = omega arith in
      ap (λ (i : ℕ). get_or s i 0) (sym at)
      ∙ sym (get_or-drop (2 + n) s (4 - n) 0)
      ∙ sym (get_or-take (5 - n) (drop (2 + n) s) (4 - n) 0 (omega arith))
      ∙ all-at 255 (unused_in erasure_bytes s) t (4 - n) (simp (length-take, length-drop) (omega arith))

  pub slot-twin : Slot erasure_bytes s → blank_or erasure_bytes at_most_four s ≡ true → to_new (to_old s) ≡ s
  unfolding blank_in
  slot-twin S o = twin-of s (omega arith) (go (blank_in erasure_bytes s) refl)
    where
      go : (b : Bool) → blank_in erasure_bytes s ≡ b → get_or s 6 0 ≡ 255
      go true e = all-at 255 s (and-true-right (eqb (length s) (size_of erasure_bytes)) (all_are 255 s) e) 6 (omega arith)
      go false e =
          unused-last (leb-true (count_of s) old_erasure_bytes (record-said erasure_bytes s e at_most_four ∙ o))
          (and-true-left (all_are 255 (unused_in erasure_bytes s)) (all_are 0 (tail_in erasure_bytes s))
          (record-said erasure_bytes s e (padded_in erasure_bytes) ∙ S.padded))
