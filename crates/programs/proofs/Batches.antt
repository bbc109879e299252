-- From batch to batch of an input, whatever is carried. Assumes nothing.
use Rattle.field.proofs.Base.{◌≡◌, refl, sym, ap, ◌∙◌, Bool, true, false, not, ◌&&◌, ◌||◌, false≢true, true≢false, ◌⊎◌, inl, inr, List, [], ◌++◌, ℕ}
use Rattle.field.proofs.Base.{◌+◌, ◌*◌, ◌≤◌, ◌<◌, zero-mul, arith, lt-ltb, not-false, not-true, ltb, length, take, length-append}
use Rattle.field.proofs.Base.{length-take-le}
use Rattle.card.specs.Slots.{Came}
use Rattle.card.specs.Batch.{batch_records}
use Rattle.card.proofs.Coming.{came-more}
use Rattle.field.proofs.Ask.{and-true-left, and-true-right}
use Rattle.programs.specs.declared.input.Input.{Input}
use Rattle.programs.specs.declared.output.Output.{Output}
use Rattle.programs.specs.declared.turn.Turn.{Turn}
use Rattle.programs.specs.inner.Turns.{can_go_on, TookAll}
use Rattle.programs.specs.Stream.{has_ended, is_well, Reads}
use Rattle.programs.specs.Batches.{Took, seen_all, is_whole}

-- ---- what stands at the front of a buffer

pub front-size : (xs : List ℕ) {m n : ℕ} → n ≡ m → m ≤ length xs → n ≡ length (take n xs)
front-size xs {m} {n} e h = sym (length-take-le n xs (omega arith))

-- ---- whatever is carried

module _ {A : Type 0} (over : A → List ℕ → A) where
  -- before the first batch
  abbrev pub took-start : (n : ℕ) (s u : A) (j : Input) → j.read ≡ 0 → j.failed ≡ false → u ≡ over s [] → TookAll over (0 * n) s u j
  took-start n s u j r f e =
      record {
        came = record { bytes = []; content = e; most = omega arith; full = λ t. sym (zero-mul n) };
        read = r;
        well = λ t. f;
      }

  -- the bytes of one batch, which stand at the front of the buffer
  abbrev pub took-batch : (n : ℕ) (s u : A) (i j : Input) (old new : List ℕ) → Reads i old j new → length old ≡ n
      → u ≡ over s (take j.count new) → Took over n s i u j
  took-batch n s u i j old new R l e =
      let long : length (take j.count new) ≡ j.count = length-take-le j.count new R.most in
      record {
        came = record {
          bytes = take j.count new;
          content = e;
          most = omega (arith, long, R.most, R.size, l);
          full = λ g. long ∙ R.full g ∙ R.size ∙ l;
        };
        read = R.total ∙ ap (λ (k : ℕ). i.read + k) (sym long);
        well = R.well;
      }

  -- behind i whole batches, and one more
  module _ (size : ℕ) (in_parts : (a b : List ℕ) (j : ℕ) → length a ≡ j * size → (s : A) → over s (a ++ b) ≡ over (over s a) b) (s : A) (i : ℕ)
      (t : A) (I : Input) (C : TookAll over (i * (batch_records * size)) s t I) (g : I.going ≡ true) (u : A) (J : Input)
      (D : Took over (batch_records * size) t I u J) where
    abbrev going : Came over (i * (batch_records * size)) s t true
    going = record { bytes = C.came.bytes; content = C.came.content; most = C.came.most; full = λ b. C.came.full g }

    abbrev pub took_more : TookAll over ((i + 1) * (batch_records * size)) s u J
    took_more =
        record {
          came = came-more over size in_parts s i t going u J.going D.came;
          read = omega (arith, C.read, D.read, length-append C.came.bytes D.came.bytes);
          well = D.well;
        }

-- no batch ends where the input may go on; where it has ended or failed, more might have come
module _ {A : Type 0} {over : A → List ℕ → A} {s u : A} {J : Input} where
  pub took-most : (n m : ℕ) → TookAll over n s u J → J.going ≡ false → n ≤ m → TookAll over m s u J
  took-most n m C g h =
      record {
        came = record {
          bytes = C.came.bytes;
          content = C.came.content;
          most = omega (arith, C.came.most, h);
          full = λ t. absurd (false≢true (sym g ∙ t));
        };
        read = C.read;
        well = C.well;
      }

-- ---- where reading stops

-- an input that does not go on has ended, or a read has failed
pub ended-or-failed : (n : ℕ) (j : Input) → j.going ≡ false → (seen_all n j ≡ true) ⊎ (j.failed ≡ true)
ended-or-failed n j g = go j.going j.failed g
  where
    go : (a b : Bool) → a ≡ false → (((not a && not b) || ltb n j.read) ≡ true) ⊎ (b ≡ true)
    go false true e = inr refl
    go false false e = inl refl
    go true b e = absurd (true≢false e)

-- more than n bytes were read
pub goes_further_lem : (n : ℕ) (j : Input) → n < j.read → seen_all n j ≡ true
goes_further_lem n j h = go (has_ended j)
  where
    go : (b : Bool) → (b || ltb n j.read) ≡ true
    go true = refl
    go false = lt-ltb n j.read h

-- where one byte was wanted and none came, the input does not go on
pub nothing-more : {i j : Input} {old new : List ℕ} → Reads i old j new → length old ≡ 1 → j.count ≡ 0 → j.going ≡ false
nothing-more {i} {j} R one z = go j.going refl
  where
    go : (b : Bool) → j.going ≡ b → b ≡ false
    go false e = refl
    go true e = absurd (omega (arith, R.full e, R.size, one, z))

pub both_true : (a b : Bool) → a ≡ true → b ≡ true → (a && b) ≡ true
both_true true true p q = refl
both_true true false p q = q
both_true false b p q = p

-- a turn can go on: the input may, and every write succeeded
module _ {A : Type 0} (t : Turn A) (p : can_go_on t ≡ true) where
  pub goes-going : t.input.going ≡ true
  goes-going = and-true-left t.input.going t.output.ok p

  pub goes-ok : t.output.ok ≡ true
  goes-ok = and-true-right t.input.going t.output.ok p

-- the whole of the input was read, and all of it written
module _ {A : Type 0} (t : Turn A) {b : Bool} (e : b ≡ is_whole t) (w : not b ≡ false) where
  pub whole : is_whole t ≡ true
  whole = sym e ∙ not-false b w

  pub whole-ended : has_ended t.input ≡ true
  whole-ended = and-true-left (has_ended t.input) t.output.ok whole

  pub whole-written : t.output.ok ≡ true
  whole-written = and-true-right (has_ended t.input) t.output.ok whole

-- ---- tests

-- b was asked, and a is the answer
module _ {a b : Bool} (e : a ≡ b) where
  pub asked-yes : a ≡ true → b ≡ true
  asked-yes p = sym e ∙ p

  pub asked-no : a ≡ false → b ≡ false
  asked-no p = sym e ∙ p

  pub denied-no : not a ≡ false → b ≡ true
  denied-no p = sym e ∙ not-false a p

  pub denied-yes : not a ≡ true → b ≡ false
  denied-yes p = sym e ∙ not-true a p

-- both were asked, the second where the answer to the first was yes
module _ {a x : Bool} (e : a ≡ x) where
  pub and-asked : {b : Bool} (y : Bool) → a ≡ true → b ≡ y → b ≡ (x && y)
  and-asked y t f = f ∙ ap (λ (z : Bool). z && y) (sym t ∙ e)

  pub and-unasked : (y : Bool) → a ≡ false → a ≡ (x && y)
  and-unasked y t = t ∙ ap (λ (z : Bool). z && y) (sym t ∙ e)

-- a failed read, or a failed write, is not well
pub unwell : (i : Input) (o : Output) → i.failed ≡ true → is_well i o ≡ false
unwell i o f = ap (λ (b : Bool). o.ok && not b) f ∙ and-false o.ok
  where
    and-false : (a : Bool) → (a && false) ≡ false
    and-false true = refl
    and-false false = refl

pub well-written : (i : Input) (o : Output) → is_well i o ≡ true → o.ok ≡ true
well-written i o p = and-true-left o.ok (not i.failed) p
