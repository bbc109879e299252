-- The look at a slot that was sought. Assumes nothing.
use Rattle.std.proofs.Common.{None, Option, Some}
use Rattle.field.proofs.Base.{◌≡◌, sym, ap, ◌∙◌, Bool, true, false, cond, false≢true, List, ◌⊎◌, inl, inr, ℕ, ◌-◌, ◌≤◌, arith, eq-eqb, ne_eqb, eqb}
use Rattle.field.proofs.Base.{length, take_all}
use Rattle.card.specs.Record.{record_size}
use Rattle.card.specs.Slots.{record_at}
use Rattle.card.specs.Card.{record_numbered, fine, check_of, first_refused}
use Rattle.card.proofs.Checking.{first_some, first-none}
use Rattle.show.specs.Look.{look_text}
use Rattle.programs.specs.declared.input.Input.{Input}
use Rattle.programs.specs.declared.output.Output.{Output}
use Rattle.programs.specs.declared.seek.Sought.{Sought}
use Rattle.programs.specs.declared.status.Status.{Status}
use Rattle.programs.specs.declared.status.Status.TheVariants.{Done, AnsweredNo, NotDone}
use Rattle.programs.specs.Stream.{Wrote, is_well}
use Rattle.programs.specs.Look.{LooksCard, look_status}
use Rattle.programs.specs.inner.Seeks.{kept, SeeksSlot}
use Rattle.programs.proofs.Batches.{unwell, well-written}
use Rattle.programs.proofs.Seeking.{is-slot}

-- ---- the check of one slot

module _ (slot : List ℕ) (some : length slot ≡ 0 → ⊥) (h : length slot ≤ record_size) where
  first : record_at slot 0 ≡ slot
  first = take_all record_size slot h

  module _ (x : (Option ℕ)) (e : check_of x ≡ first_refused slot) where
    pub fine-all : x ≡ None → true ≡ fine slot
    fine-all a =
        let none = (first-none slot).0 (sym e ∙ ap check_of a) 0 (omega arith) in
        sym none ∙ ap fine first

    pub fine-not : (k : ℕ) → x ≡ Some k → false ≡ fine slot
    fine-not k a =
        let B = (first_some slot k).0 (sym e ∙ ap check_of a) in
        let one : k - 1 ≡ 0 = omega (arith, B.number, B.inside) in
        sym B.refused ∙ ap (λ (i : ℕ). fine (record_at slot i)) one ∙ ap fine first

-- ---- how the look ends

module _ (slot : List ℕ) (i : Input) (o : Output) where
  abbrev shown : Status
  shown = cond (eqb (length slot) 0) NotDone (cond (fine slot) Done AnsweredNo)

  pub look-unwell : is_well i o ≡ false → NotDone ≡ look_status slot i o
  look-unwell e = ap (λ (b : Bool). cond b shown NotDone) (sym e)

  module _ (w : is_well i o ≡ true) where
    look-well : shown ≡ look_status slot i o
    look-well = ap (λ (b : Bool). cond b shown NotDone) (sym w)

    pub look_none : length slot ≡ 0 → NotDone ≡ look_status slot i o
    look_none z = ap (λ (b : Bool). cond b NotDone (cond (fine slot) Done AnsweredNo)) (sym (eq-eqb (length slot) 0 z)) ∙ look-well

    pub look-shown : (length slot ≡ 0 → ⊥) → (b : Bool) → b ≡ fine slot → cond b Done AnsweredNo ≡ look_status slot i o
    look-shown n b e =
        ap (λ (x : Bool). cond x Done AnsweredNo) e
        ∙ ap (λ (x : Bool). cond x NotDone (cond (fine slot) Done AnsweredNo)) (sym (ne_eqb (length slot) 0 n))
        ∙ look-well

-- ---- what is written

module _ (n : ℕ) {s : Sought} {row : List ℕ} (S : SeeksSlot (n - 1) s row) (slot : List ℕ) (e : slot ≡ kept s.len row) where
  same : slot ≡ record_numbered S.card n
  same = is-slot n S slot e

  module _ (o : Output) (st : Status) (es : st ≡ look_status slot s.input o) where
    status-is : st ≡ look_status (record_numbered S.card n) s.input o
    status-is = es ∙ ap (λ (l : List ℕ). look_status l s.input o) same

    -- nothing is written
    pub looks-failed : o.written ≡ 0 → s.input.failed ≡ true → LooksCard n (record { input = s.input; output = o; status = st })
    looks-failed z f =
        record {
          card = S.card;
          read = S.read;
          text = λ w h. absurd (false≢true (sym (unwell s.input o f) ∙ w));
          silent = λ h. z;
          status = status-is;
        }

    pub looks-none : o.written ≡ 0 → length slot ≡ 0 → LooksCard n (record { input = s.input; output = o; status = st })
    looks-none z f =
        record {
          card = S.card;
          read = S.read;
          text = λ w h. absurd (omega (arith, ap length same, f, h));
          silent = λ h. z;
          status = status-is;
        }

    pub looks-card : (p : Output) → p.written ≡ 0 → s.input.failed ≡ false → (length slot ≡ 0 → ⊥)
        → Wrote p (length (look_text n slot)) o → LooksCard n (record { input = s.input; output = o; status = st })
    looks-card p z f h W =
        record {
          card = S.card;
          read = S.read;
          text = λ w g. omega (arith, W (well-written s.input o w), z, ap (λ (l : List ℕ). length (look_text n l)) same);
          silent = silent;
          status = status-is;
        }
      where
        silent : (s.input.failed ≡ true) ⊎ (length (record_numbered S.card n) ≡ 0) → o.written ≡ 0
        silent (inl t) = absurd (false≢true (sym f ∙ t))
        silent (inr t) = absurd (h (ap length same ∙ t))
