-- The layout of a record, and what its own questions tell of it. Assumes nothing.
use Rattle.std.proofs.Common.{Ok, Err}
use Rattle.field.proofs.Base.{◌≡◌, refl, sym, ap, ap₂, ◌∙◌, ◌≢◌, Bool, true, false, not, ◌&&◌, List, [], ◌∷◌, ℕ, ◌+◌, ◌-◌, ◌≤◌, ◌<◌, add-one, arith}
use Rattle.field.proofs.Base.{eq-eqb, ne_eqb, eqb-true, le-leb, lt-leb, leb-true, not-true, not-false, eqb, leb, length, get_or, take, drop}
use Rattle.field.proofs.Base.{replicate, drop-cons}
use lib.Seq.{take-take}
use Rattle.field.specs.Question.{ask, is_width}
use Rattle.field.specs.declared.Question.TheVariants.{Width, Length, ErasureCount, Padding, FourErasures}
use Rattle.field.proofs.Ask.{ask-yes, ask-next, and-true-left, and-true-right}
use Rattle.code.specs.Word.{places, word_length}
use Rattle.code.proofs.Lengths.{width_some, width-none, length-is, places-most}
use Rattle.card.specs.Record.{header_of, size_of, width_of, count_of, erasures_of, unused_in, allowed_in, all_are, has_width, few_in}
use Rattle.card.specs.Record.{padded_in, asked_in, erasure_bytes, record_size, word_of, record_asked}
use Rattle.card.specs.inner.Parts.{header_size, unused_of, tail_of}
use Rattle.card.specs.Leading.{leading, verdict_at}
use Rattle.card.specs.inner.Leading.{record_passes}

-- ---- bytes that are all the same

module _ (x : ℕ) (ys : List ℕ) (i : ℕ) (e : all_are x ys ≡ all_are x (drop i ys)) where
  step : i < length ys → all_are x ys ≡ (eqb (get_or ys i 0) x && all_are x (drop (i + 1) ys))
  step h = e ∙ ap (all_are x) one
    where
      one : drop i ys ≡ get_or ys i 0 ∷ drop (i + 1) ys
      one = rw (add-one, drop-cons ys i 0)

pub all_replicate : (x : ℕ) (ys : List ℕ) → all_are x ys ≡ true → ys ≡ replicate (length ys) x
all_replicate x [] h = refl
all_replicate x (y ∷ ys) h =
    ap₂ ◌∷◌ (eqb-true y x (and-true-left (eqb y x) (all_are x ys) h)) (all_replicate x ys (and-true-right (eqb y x) (all_are x ys) h))

-- ---- the record's own questions, one by one

-- n is the length of the record's word
module _ (k most : ℕ) (r : List ℕ) (n : ℕ) (en : n ≡ word_length (width_of r)) where
  pub passes_none : n ≡ 0 → 0 ≡ record_passes k most r
  unfolding record_passes
  passes_none z = simp (width-none (width_of r) n en z)

  module _ (nz : n ≢ 0) where
    width : is_width (width_of r) ≡ true
    width = width_some (width_of r) n en nz

    pub record-fits : header_of k + n ≤ size_of k
    record-fits = omega (arith, length-is (width_of r) n en width, places-most (width_of r) width)

    -- a is question 3's bound
    module _ (a : ℕ) (ea : a ≡ allowed_in k r) where
      pub passes-one : a < count_of r → 1 ≡ record_passes k most r
      unfolding record_passes
      passes-one h = simp (width, lt-leb (count_of r) (allowed_in k r) (rw ea at h))

      -- b is what `padded` says
      module _ (few : count_of r ≤ a) (b : Bool)
          (eb : b ≡ (all_are 255 (take (k - count_of r) (drop (2 + count_of r) r)) && all_are 0 (drop (header_of k + n) r))) where
        passes-last : (c : Bool) → b ≡ c → leading (true ∷ true ∷ c ∷ leb (count_of r) most ∷ []) ≡ record_passes k most r
        unfolding record_passes
        passes-last c t =
            simp (width, le-leb (count_of r) (allowed_in k r) (rw ea at few))
            (ap (λ (x : Bool). leading (true ∷ true ∷ x ∷ leb (count_of r) most ∷ [])) (sym t ∙ padding))
          where
            padding : b ≡ padded_in k r
            padding =
                eb
                ∙ ap (λ (x : ℕ). all_are 255 (unused_in k r) && all_are 0 (drop (header_of k + x) r)) (length-is (width_of r) n en width)

        pub passes-two : not b ≡ true → 2 ≡ record_passes k most r
        passes-two t = passes-last false (not-true b t)

        pub passes-three : not b ≡ false → most < count_of r → 3 ≡ record_passes k most r
        passes-three t h =
            ap (λ (x : Bool). leading (true ∷ true ∷ true ∷ x ∷ [])) (sym (lt-leb (count_of r) most h)) ∙ passes-last true (not-false b t)

        pub passes-four : not b ≡ false → count_of r ≤ most → 4 ≡ record_passes k most r
        passes-four t h =
            ap (λ (x : Bool). leading (true ∷ true ∷ true ∷ x ∷ [])) (sym (le-leb (count_of r) most h)) ∙ passes-last true (not-false b t)

-- ---- the verdict

pub verdict-asked : (a b c d : Bool)
    → verdict_at (leading (a ∷ b ∷ c ∷ d ∷ [])) ≡ ask a Width (ask b ErasureCount (ask c Padding (ask d FourErasures (Ok tt))))
verdict-asked true true true true = refl
verdict-asked true true true false = refl
verdict-asked true true false d = refl
verdict-asked true false c d = refl
verdict-asked false b c d = refl

-- where question 3 does not allow more, question 15 is passed
pub asked-late : (a b c d : Bool) → (b ≡ true → d ≡ true)
    → ask a Width (ask b ErasureCount (ask c Padding (ask d FourErasures (Ok tt)))) ≡ ask a Width (ask b ErasureCount (ask c Padding (Ok tt)))
asked-late a true c d f = ap (λ (x : Bool). ask a Width (ask c Padding (ask x FourErasures (Ok tt)))) (f refl)
asked-late a false c d f = refl

-- no more erasures than there are bytes for
pub few-fit : (k : ℕ) (r : List ℕ) → few_in k r ≡ true → leb (count_of r) k ≡ true
few-fit k r h = le-leb (count_of r) k (omega (arith, leb-true (count_of r) (allowed_in k r) h))

module _ (k : ℕ) (r : List ℕ) where
  pub length-no : (length r ≡ size_of k → ⊥) → Err Length ≡ asked_in k r
  unfolding asked_in
  length-no n = simp (ne_eqb (length r) (size_of k) n)

  pub width-no : length r ≡ size_of k → is_width (width_of r) ≡ false → Err Width ≡ asked_in k r
  unfolding asked_in
  width-no size w = simp (eq-eqb (length r) (size_of k) size, w)

  pub record-asked : length r ≡ size_of k → (n : ℕ) → n ≡ record_passes k k r → verdict_at n ≡ asked_in k r
  unfolding record_passes asked_in
  record-asked size n e =
      ap verdict_at e
      ∙ verdict-asked (has_width r) (few_in k r) (padded_in k r) (leb (count_of r) k)
      ∙ asked-late (has_width r) (few_in k r) (padded_in k r) (leb (count_of r) k) (few-fit k r)
      ∙ sym (ap (λ (x : Bool). ask x Length (ask (has_width r) Width (ask (few_in k r) ErasureCount (ask (padded_in k r) Padding (Ok tt)))))
      (eq-eqb (length r) (size_of k) size))

-- ---- a record that passed them

pub record Asked (r : List ℕ) : Type 0 where
  pub size : length r ≡ record_size
  pub width : is_width (width_of r) ≡ true
  pub few : count_of r ≤ erasure_bytes
  pub tail : all_are 0 (tail_of r) ≡ true

pub asked : (r : List ℕ) → record_asked r ≡ (Ok tt) → Asked r
unfolding asked_in
asked r p1 =
    let p2 = ask-next (eqb (length r) record_size) Length _ p1 in
    let p3 = ask-next (is_width (width_of r)) Width _ p2 in
    let p4 = ask-next (leb (count_of r) (allowed_in erasure_bytes r)) ErasureCount _ p3 in
    record {
      size = eqb-true (length r) record_size (ask-yes (eqb (length r) record_size) Length _ p1);
      width = ask-yes (is_width (width_of r)) Width _ p2;
      few = omega (arith, leb-true (count_of r) (allowed_in erasure_bytes r) (ask-yes (leb (count_of r) (allowed_in erasure_bytes r)) ErasureCount _ p3));
      tail = and-true-right (all_are 255 (unused_of r)) (all_are 0 (tail_of r))
          (ask-yes (all_are 255 (unused_of r) && all_are 0 (tail_of r)) Padding (Ok tt) p4);
    }

module _ (r : List ℕ) (A : Asked r) (n : ℕ) (en : n ≡ word_length (width_of r)) where
  word-length : n ≡ places (width_of r)
  word-length = length-is (width_of r) n en A.width

  pub word_fits : header_size + n ≤ length r
  word_fits = omega (arith, word-length, places-most (width_of r) A.width, A.size)

  pub word-long : header_size + n - header_size ≡ places (width_of r)
  word-long = omega (arith, word-length)

  pub word-part : take (header_size + n - header_size) (drop header_size r) ≡ word_of r
  word-part = ap (λ (k : ℕ). take k (drop header_size r)) word-long

  pub erasures-part : (es : List ℕ) → es ≡ take erasure_bytes (drop 2 r) → take (count_of r) es ≡ erasures_of r
  erasures-part es e = ap (take (count_of r)) e ∙ take-take (count_of r) erasure_bytes (drop 2 r) A.few
