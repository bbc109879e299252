-- What the questions before question 8 tell of a word and its erasures, what the question about the syndromes tells, that data passes the
-- encoder's questions and a codeword the reader's. Assumes nothing.
use Rattle.std.proofs.Common.{Ok, Err}
use Rattle.field.specs.Question.{Verdict}
use Rattle.field.proofs.Base.{◌≡◌, refl, sym, ap, ◌∙◌, Bool, true, List, ℕ, ◌≤◌, ◌<◌, le_refl, arith, leb-true, le-leb, lt-leb, eqb-true, eq-eqb, eqb}
use Rattle.field.proofs.Base.{leb, length}
use Rattle.field.specs.Field.{order}
use Rattle.field.specs.Question.{ask, is_width, all_below}
use Rattle.field.specs.declared.Question.{Question}
use Rattle.field.specs.declared.Question.TheVariants.{Width, Length, ErasureCount, ErasurePlace, ErasureDistinct, Symbol, Reach}
use Rattle.field.proofs.Ask.{ask-yes, ask-next}
use Rattle.field.proofs.Evaluation.{five-at}
use Rattle.field.proofs.Below.{all_below-means, all_below-holds}
use Rattle.code.specs.Word.{checks, places, items, five, at, syndrome, Codeword}
use Rattle.code.specs.Erasure.{distinct, symbols_from}
use Rattle.code.specs.Call.{all_zero, zero_syndromes, encode_asked, is_codeword_asked, max_erasures, read_data_asked, restore_asked, followed}
use Rattle.code.specs.Call.{within_asked}
use Rattle.code.specs.Near.{radius}
use Rattle.code.specs.Demands.{Data, Passes, PassesWithin}
use Rattle.code.proofs.Questions.{all_zero-below, symbols-means}
use Rattle.code.specs.inner.Correction.{Lent}

-- ---- question 9

-- five numbers are zero just if each is
module _ (s : ℕ → ℕ) where
  pub five-zero : all_zero (five s) ≡ true → (k : ℕ) → k < checks → s k ≡ 0
  five-zero e k h = omega (arith, five-at s k h, all_below-means 1 (five s) (all_zero-below (five s) ∙ e) k h)

  zero-five : ((k : ℕ) → k < checks → s k ≡ 0) → all_zero (five s) ≡ true
  zero-five z = sym (all_zero-below (five s)) ∙ all_below-holds 1 (five s) (λ k h. omega (arith, five-at s k h, z k h))

module _ (m : ℕ) (w : List ℕ) where
  pub syndromes-zero : zero_syndromes m w ≡ true → (k : ℕ) → k < checks → syndrome m (at w) k ≡ 0
  unfolding zero_syndromes
  syndromes-zero = five-zero (syndrome m (at w))

  pub zero-syndromes : ((k : ℕ) → k < checks → syndrome m (at w) k ≡ 0) → zero_syndromes m w ≡ true
  unfolding zero_syndromes
  zero-syndromes = zero-five (syndrome m (at w))

-- data passes the encoder's questions
pub encode-passes : (m : ℕ) → is_width m ≡ true → (ds out : List ℕ) → Data m ds → length out ≡ places m → encode_asked m ds (length out) ≡ (Ok tt)
unfolding encode_asked
encode-passes m h ds out D e = rw (
  h,
  eq-eqb (length out) (places m) e,
  eq-eqb (length ds) (items m) D.size,
  all_below-holds (order m) ds (λ i l. D.symbols i (omega arith)),
)

-- a codeword passes the reader's questions
pub read-passes : (m : ℕ) → is_width m ≡ true → (w out : List ℕ) → Codeword m w → length out ≡ items m → read_data_asked m w (length out) ≡ (Ok tt)
unfolding read_data_asked
read-passes m h w out C e = rw (
  h,
  eq-eqb (length w) (places m) C.size,
  eq-eqb (length out) (items m) e,
  all_below-holds (order m) w (λ i l. C.symbols i (omega arith)),
  zero-syndromes m w C.zero-syndromes,
)

-- a word that passes the test's questions and has zero syndromes is a codeword
pub test-codeword : (m : ℕ) (w : List ℕ) → is_codeword_asked m w ≡ (Ok tt) → zero_syndromes m w ≡ true → Codeword m w
unfolding is_codeword_asked
test-codeword m w p1 z =
    let p2 = ask-next (is_width m) Width _ p1 in
    let p3 = ask-next (eqb (length w) (places m)) Length _ p2 in
    let size : length w ≡ places m = eqb-true _ _ (ask-yes (eqb (length w) (places m)) Length _ p2) in
    record {
      size = size;
      symbols = λ p h. all_below-means (order m) w (ask-yes (all_below (order m) w) Symbol (Ok tt) p3) p (omega arith);
      zero-syndromes = syndromes-zero m w z;
    }

-- ---- the restorer's questions before question 8

pub record Given (m : ℕ) (w es : List ℕ) : Type 0 where
  pub width : is_width m ≡ true
  pub few : length es ≤ max_erasures m
  pub lent : Lent m w es

pub given : (m : ℕ) (w es : List ℕ) → Passes m w es → Given m w es
unfolding restore_asked
given m w es p1 =
    let p2 = ask-next (is_width m) Width _ p1 in
    let p3 = ask-next (eqb (length w) (places m)) Length _ p2 in
    let p4 = ask-next (leb (length es) (max_erasures m)) ErasureCount _ p3 in
    let p5 = ask-next (all_below (places m) es) ErasurePlace _ p4 in
    let p6 = ask-next (distinct es) ErasureDistinct _ p5 in
    let size : length w ≡ places m = eqb-true _ _ (ask-yes (eqb (length w) (places m)) Length _ p2) in
    record {
      width = ask-yes (is_width m) Width _ p1;
      few = leb-true _ _ (ask-yes (leb (length es) (max_erasures m)) ErasureCount _ p3);
      lent = record {
        size = size;
        symbols = λ p h o. symbols-means (order m) es w (ask-yes (symbols_from (order m) es 0 w) Symbol (Ok tt) p6) p (omega arith) o;
        distinct = ask-yes (distinct es) ErasureDistinct _ p5;
        below = ask-yes (all_below (places m) es) ErasurePlace _ p4;
      };
    }

-- ---- with a reach

module _ (m : ℕ) (w es : List ℕ) (reach : ℕ) where
  abbrev pub asks_reach : Verdict
  asks_reach = ask (leb reach (radius m (length es))) Reach (Ok tt)

  pub within_on : Passes m w es → within_asked m w es reach ≡ asks_reach
  unfolding within_asked
  within_on p = ap (λ (v : Verdict). followed v asks_reach) p

  pub within-stop : (q : Question) → restore_asked m w es ≡ Err q → within_asked m w es reach ≡ Err q
  unfolding within_asked
  within-stop q e = ap (λ (v : Verdict). followed v asks_reach) e

  pub passes-within : Passes m w es → reach ≤ radius m (length es) → PassesWithin m w es reach
  passes-within p h = within_on p ∙ ap (λ (b : Bool). ask b Reach (Ok tt)) (le-leb reach (radius m (length es)) h)

  pub longer-refused : Passes m w es → radius m (length es) < reach → within_asked m w es reach ≡ Err Reach
  longer-refused p h = within_on p ∙ ap (λ (b : Bool). ask b Reach (Ok tt)) (lt-leb reach (radius m (length es)) h)

  pub within-passes : PassesWithin m w es reach → Passes m w es × (reach ≤ radius m (length es))
  unfolding within_asked
  within-passes e = go (restore_asked m w es) refl e
    where
      go : (v : Verdict) → restore_asked m w es ≡ v → followed v asks_reach ≡ (Ok tt) → Passes m w es × (reach ≤ radius m (length es))
      go (Ok tt) f e = (f, leb-true reach (radius m (length es)) (ask-yes (leb reach (radius m (length es))) Reach (Ok tt) e))
      go (Err q) f e = let z : ◌≡◌ {A = ℕ} 0 1 = cc in absurd (omega arith)

-- who names no reach is asked nothing more
pub passes-radius : (m : ℕ) (w es : List ℕ) → within_asked m w es (radius m (length es)) ≡ restore_asked m w es
unfolding within_asked
passes-radius m w es = go (restore_asked m w es)
  where
    go : (v : Verdict) → followed v (asks_reach m w es (radius m (length es))) ≡ v
    go (Ok tt) = ap (λ (b : Bool). ask b Reach (Ok tt)) (le-leb (radius m (length es)) (radius m (length es)) (le_refl (radius m (length es))))
    go (Err q) = refl
