-- Blank slots: what is not, and what a blank slot gets when it is taken as a record. Assumes nothing.
use Rattle.std.proofs.Common.{Err}
use Rattle.field.proofs.Base.{◌≡◌, refl, sym, ap, ◌∙◌, ◌⊎◌, inl, inr, Bool, true, false, ◌&&◌, ◌||◌, false≢true, List, [], ◌∷◌, ℕ, ◌<◌, arith, eq-eqb}
use Rattle.field.proofs.Base.{ne_eqb, eqb-true, eqb, length}
use Rattle.field.specs.Question.{Outcome, accepted, refused, is_width}
use Rattle.field.specs.declared.Question.TheVariants.{Width}
use Rattle.field.proofs.Ask.{and-true-left, and-true-right}
use Rattle.card.specs.Record.{size_of, erasure_bytes, record_size, width_of, all_are, asked_in, reach_of, record_of, record_written}
use Rattle.card.specs.Record.{record_within_of, record_within_written, reach_up_to, record_up_to, record_written_up_to}
use Rattle.card.specs.Slots.{blank_in, is_blank}
use Rattle.card.specs.Card.{is_accepted, passes, fine}
use Rattle.card.proofs.Layouts.{width-no}
use Rattle.card.proofs.Recording.{restores-refused}

-- ---- the test

module _ (k : ℕ) (slot : List ℕ) where
  pub blank-no : (length slot ≡ size_of k → ⊥) → false ≡ blank_in k slot
  unfolding blank_in
  blank-no n = sym (ap (λ (b : Bool). b && all_are 255 slot) (ne_eqb (length slot) (size_of k) n))

  pub blank-whole : (b : Bool) → length slot ≡ size_of k → b ≡ all_are 255 slot → b ≡ blank_in k slot
  unfolding blank_in
  blank-whole b l e = e ∙ sym (ap (λ (c : Bool). c && all_are 255 slot) (eq-eqb (length slot) (size_of k) l))

-- a shorter last piece is never blank, whatever its bytes are
pub short-not-blank : (slot : List ℕ) → length slot < record_size → is_blank slot ≡ false
short-not-blank slot h = sym (blank-no erasure_bytes slot (λ e. omega arith))

-- ---- the card check's slots

-- what it means to be fine, or not: blank or accepted, or else a record that would be refused
accepted-is : (o : Outcome) → is_accepted o ≡ true → (k : ℕ) × (o ≡ accepted k)
accepted-is (accepted k) t = (k, refl)
accepted-is (refused n) t = absurd (false≢true t)

pub fine-means : (slot : List ℕ) → fine slot ≡ true → (is_blank slot ≡ true) ⊎ ((k : ℕ) × (record_of slot ≡ accepted k))
fine-means slot t = go (is_blank slot) refl t
  where
    go : (b : Bool) → is_blank slot ≡ b → (b || passes slot) ≡ true → (is_blank slot ≡ true) ⊎ ((k : ℕ) × (record_of slot ≡ accepted k))
    go true e t = inl e
    go false e t = inr (accepted-is (record_of slot) t)

-- ---- a blank slot as a record

blank-width : (slot : List ℕ) → 0 < length slot → all_are 255 slot ≡ true → width_of slot ≡ 255
blank-width [] l h = absurd (omega arith)
blank-width (x ∷ xs) l h = eqb-true x 255 (and-true-left (eqb x 255) (all_are 255 xs) h)

-- question 1 is answered no
pub blank-asked : (k : ℕ) (slot : List ℕ) → blank_in k slot ≡ true → Err Width ≡ asked_in k slot
unfolding blank_in
blank-asked k slot h =
    let size = eqb-true (length slot) (size_of k) (and-true-left (eqb (length slot) (size_of k)) (all_are 255 slot) h) in
    let all = and-true-right (eqb (length slot) (size_of k)) (all_are 255 slot) h in
    width-no k slot size (ap is_width (blank-width slot (omega arith) all))

-- restoring it as a record gives 1, as it did before there were blank slots, and changes no byte
module _ (slot : List ℕ) (h : is_blank slot ≡ true) where
  pub blank-within : (reach : ℕ) → (record_within_of slot reach ≡ refused 1) × (record_within_written slot reach ≡ slot)
  blank-within reach =
      let R = restores-refused slot reach (Err Width) Width (blank-asked erasure_bytes slot h) refl (Err Width) refl slot refl in
      (sym R.answer, sym R.content)

  pub blank-refused : (record_of slot ≡ refused 1) × (record_written slot ≡ slot)
  unfolding record_of record_written
  blank-refused = blank-within (reach_of slot)

  pub blank-up-to : (n : ℕ) → (record_up_to n slot ≡ refused 1) × (record_written_up_to n slot ≡ slot)
  unfolding record_up_to record_written_up_to
  blank-up-to n = blank-within (reach_up_to n slot)
