-- The restored record. Assumes nothing.
use Rattle.std.proofs.Common.{Ok, Err, Result}
use Rattle.field.specs.Question.{Verdict}
use Rattle.field.proofs.Base.{◌≡◌, refl, sym, ap, ap₂, ◌∙◌, List, ◌∷◌, ◌++◌, ℕ, ◌+◌, ◌-◌, min, arith, length, take, drop, replicate, take-append-drop}
use Rattle.field.proofs.Base.{length-drop, drop_at, drop-drop, length-take-le}
use mathlib.Core.Path.{subst₂}
use Rattle.field.specs.Question.{Outcome, accepted, refused, refusal, after}
use Rattle.field.specs.declared.Question.{Question}
use Rattle.field.specs.declared.Question.TheVariants.{Length}
use Rattle.code.specs.Word.{places, word_length, longest}
use Rattle.code.specs.Near.{radius}
use Rattle.code.specs.Call.{within_of, within_written, repair, RestoresWithin}
use Rattle.code.proofs.Lengths.{places-most}
use Rattle.code.proofs.Demands.{accepts, refused-unchanged}
use Rattle.card.specs.Record.{erasure_bytes, record_size, width_of, count_of, word_of, erasures_of, record_asked, clear_record, on_accept, RestoresCopy}
use Rattle.card.specs.inner.Parts.{header_size, tail_of}
use Rattle.card.specs.Record.{record_within_of, record_within_written, RestoresRecordWithin, reach_of, record_of, record_written, RestoresRecord, copy_written}
use Rattle.card.specs.Record.{reach_up_to, record_up_to, record_written_up_to, RestoresRecordUpTo}
use Rattle.card.proofs.Layouts.{Asked, asked, all_replicate, length-no, word-part, erasures-part}

-- the record's own questions were answered no
within-refused : (r : List ℕ) (reach : ℕ) (v : Verdict) (q : Question) → v ≡ record_asked r → v ≡ Err q
    → refused (refusal q) ≡ record_within_of r reach
unfolding record_within_of
within-refused r reach v q e p = ap (λ (u : Verdict). after u (within_of (width_of r) (word_of r) (erasures_of r) reach)) (sym p ∙ e)

pub restores-refused : (r : List ℕ) (reach : ℕ) (v : Verdict) (q : Question) → v ≡ record_asked r → v ≡ Err q → (a : Result ℕ Question) → a ≡ Err q
    → (new : List ℕ) → new ≡ r → RestoresRecordWithin r reach a new
unfolding record_within_written
restores-refused r reach v q e p a f new h =
    let o = within-refused r reach v q e p in
    record {
      answer = ap repair f ∙ o;
      content = h
          ∙ ap (λ (x : Outcome). on_accept x r (clear_record (width_of r) (within_written (width_of r) (word_of r) (erasures_of r) reach))) o;
    }

-- what the restorer did with the parts of the record, n the length of its word and es its erasure bytes
pub restores-parts : (r : List ℕ) (A : Asked r) (n : ℕ) (en : n ≡ word_length (width_of r)) (es : List ℕ) → es ≡ take erasure_bytes (drop 2 r)
    → (reach : ℕ) (x : Result ℕ Question) (new : List ℕ)
    → RestoresWithin (width_of r) (take (header_size + n - header_size) (drop header_size r)) (take (count_of r) es) reach x new
    → RestoresWithin (width_of r) (word_of r) (erasures_of r) reach x new
restores-parts r A n en es e reach x new R =
    subst₂ (λ (w ls : List ℕ). RestoresWithin (width_of r) w ls reach x new) (word-part r A n en) (erasures-part r A n en es e) R

-- they were answered yes; R is what the restorer did with the word
module _ (r : List ℕ) (P : record_asked r ≡ (Ok tt)) (reach : ℕ) (x : Result ℕ Question) (new : List ℕ)
    (R : RestoresWithin (width_of r) (word_of r) (erasures_of r) reach x new) where
  answer : repair x ≡ record_within_of r reach
  unfolding record_within_of
  answer = R.answer ∙ sym (ap (λ (u : Verdict). after u (within_of (width_of r) (word_of r) (erasures_of r) reach)) P)

  -- the record with the word put back
  module _ (n : ℕ) (en : n ≡ places (width_of r)) where
    same_word : new ≡ word_of r → take header_size r ++ (new ++ drop n (drop header_size r)) ≡ r
    same_word e =
        ap (λ (u : List ℕ). take header_size r ++ (u ++ drop n (drop header_size r)))
        (e ∙ ap (λ (k : ℕ). take k (drop header_size r)) (sym en))
        ∙ ap (λ (u : List ℕ). take header_size r ++ u) (take-append-drop n (drop header_size r))
        ∙ take-append-drop header_size r

    pub word-refused : (q : Question) → x ≡ Err q → (v : Result ℕ Question) → v ≡ Err q
        → RestoresRecordWithin r reach v (take header_size r ++ (new ++ drop n (drop header_size r)))
    unfolding record_within_written
    word-refused q e v g =
        let o : refused (refusal q) ≡ record_within_of r reach = ap repair (sym e) ∙ answer in
        let f : within_of (width_of r) (word_of r) (erasures_of r) reach ≡ refused (refusal q) = sym R.answer ∙ ap repair e in
        record {
          answer = ap repair g ∙ o;
          content = same_word (R.word ∙ refused-unchanged (width_of r) (word_of r) (erasures_of r) reach (refusal q) f)
              ∙ ap (λ (y : Outcome). on_accept y r (clear_record (width_of r) (within_written (width_of r) (word_of r) (erasures_of r) reach))) o;
        }

    A : Asked r
    A = asked r P

    rest : drop n (drop header_size r) ≡ tail_of r
    rest = drop-drop n header_size r ∙ ap (λ (k : ℕ). drop (header_size + k) r) en

    pub word-restored : (k : ℕ) → x ≡ Ok k → (final : List ℕ)
        → final ≡ (width_of r ∷ 0 ∷ replicate erasure_bytes 255) ++ drop header_size (take header_size r ++ (new ++ drop n (drop header_size r)))
        → RestoresRecordWithin r reach (Ok k) final
    unfolding record_within_written
    word-restored k e final f =
        record {
          answer = o;
          content = f
              ∙ ap (λ (u : List ℕ). (width_of r ∷ 0 ∷ replicate erasure_bytes 255) ++ u)
              (drop_at (take header_size r) (new ++ drop n (drop header_size r)) header_size
              (length-take-le header_size r (omega (arith, A.size)))
              ∙ ap₂ ◌++◌ R.word (rest ∙ all_replicate 0 (tail_of r) A.tail ∙ ap (λ (i : ℕ). replicate i 0) long))
              ∙ ap (λ (y : Outcome). on_accept y r (clear_record (width_of r) c)) o;
        }
      where
        c : List ℕ
        c = within_written (width_of r) (word_of r) (erasures_of r) reach

        o : accepted k ≡ record_within_of r reach
        o = ap repair (sym e) ∙ answer

        size : length c ≡ places (width_of r)
        size =
            ((accepts (width_of r) (word_of r) (erasures_of r) reach k c).0 (sym R.answer ∙ ap repair e, refl)).1.near.codeword.size

        long : length (tail_of r) ≡ longest - length c
        long = length-drop (header_size + places (width_of r)) r ∙ omega (arith, A.size, size, places-most (width_of r) A.width)

-- ---- who names a longest reach

pub restores-up-to : (n : ℕ) (r : List ℕ) (reach : ℕ) → reach ≡ reach_up_to n r → (x : Result ℕ Question) (new : List ℕ) → RestoresRecordWithin r reach x new
    → RestoresRecordUpTo n r x new
unfolding record_up_to record_written_up_to
restores-up-to n r reach e x new R =
    record { answer = R.answer ∙ ap (record_within_of r) e; content = R.content ∙ ap (record_within_written r) e }

-- the reach by the number of erasures
pub reach-counted : (n : ℕ) (r : List ℕ) → Asked r → (k : ℕ) → k ≡ min n (radius (width_of r) (count_of r)) → k ≡ reach_up_to n r
reach-counted n r A k h =
    h
    ∙ ap (λ (s : ℕ). min n (radius (width_of r) s))
    (sym (length-take-le (count_of r) (drop 2 r) (omega (arith, A.few, A.size, length-drop 2 r))))

-- ---- a record of another length

pub short-refused : (r : List ℕ) → (length r ≡ record_size → ⊥) → refused (refusal Length) ≡ record_of r
unfolding record_of
short-refused r n = within-refused r (reach_of r) (Err Length) Length (length-no erasure_bytes r n) refl

-- ---- a record restored in a copy

pub copy-accepted : (r : List ℕ) (k : ℕ) → accepted k ≡ record_of r → record_written r ≡ copy_written r
unfolding copy_written
copy-accepted r k e = ap (λ (o : Outcome). on_accept o (replicate record_size 0) (record_written r)) e

pub copy-refused : (r : List ℕ) (n : ℕ) → refused n ≡ record_of r → replicate record_size 0 ≡ copy_written r
unfolding copy_written
copy-refused r n e = ap (λ (o : Outcome). on_accept o (replicate record_size 0) (record_written r)) e

-- the row is the record r, and restoring it made it `new`
pub copied-yes : (r row : List ℕ) → row ≡ r → (x : Result ℕ Question) (new : List ℕ) → RestoresRecord row x new → (k : ℕ) → x ≡ Ok k
    → RestoresCopy r (Ok (record { changed = k; bytes = new }))
copied-yes r row e x new R k p =
    let o : accepted k ≡ record_of r = ap repair (sym p) ∙ R.answer ∙ ap record_of e in
    record { answer = o; content = R.content ∙ ap record_written e ∙ copy-accepted r k o }

pub row-refused : (r row : List ℕ) → row ≡ r → (x : Result ℕ Question) (new : List ℕ) → RestoresRecord row x new → (q : Question) → x ≡ Err q
    → refused (refusal q) ≡ record_of r
row-refused r row e x new R q p = ap repair (sym p) ∙ R.answer ∙ ap record_of e

pub copied-no : (r : List ℕ) (q : Question) → refused (refusal q) ≡ record_of r → RestoresCopy r (Err q)
copied-no r q o = record { answer = o; content = copy-refused r (refusal q) o }
