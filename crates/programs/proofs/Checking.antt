-- A card check from batch to batch, and its line. Assumes nothing.
use Rattle.field.proofs.Base.{◌≡◌, refl, sym, ap, ◌∙◌, subst, Bool, true, false, cond, false≢true, true≢false, List, ◌⊎◌, inl, inr, ⊎_elim, ℕ, ◌+◌}
use Rattle.field.proofs.Base.{[], ◌++◌, ◌*◌, ◌≤◌, arith, length, take, append-nil}
use Rattle.card.specs.Record.{erasure_bytes, record_size}
use Rattle.card.specs.Slots.{record_count, over_slots}
use Rattle.card.specs.Card.{Search, passed, named, sought, searched}
use Rattle.card.specs.Batch.{batch_records, batch_size, most_batches}
use Rattle.card.specs.Checked.{ok_line, found_line, line_of, check_text, names, Finds}
use Rattle.card.specs.Text.{Written}
use Rattle.card.specs.inner.Room.{longest_refusal}
use Rattle.card.proofs.Folding.{in_parts, over_none}
use Rattle.card.proofs.Finding.{passed-all, found_none}
use Rattle.programs.specs.declared.input.Input.{Input}
use Rattle.programs.specs.declared.output.Output.{Output}
use Rattle.programs.specs.declared.cardcheck.Searching.{Searching}
use Rattle.programs.specs.declared.answer.Answered.{Answered}
use Rattle.programs.specs.declared.status.Status.{Status}
use Rattle.programs.specs.Stream.{Reads, Wrote, has_ended, is_well}
use Rattle.programs.specs.declared.status.Status.TheVariants.{Done, AnsweredNo, NotDone}
use Rattle.programs.specs.Check.{LineOf, ChecksCard, check_status}
use Rattle.programs.specs.inner.Turns.{CanRead, CanWrite, TookAll}
use Rattle.programs.specs.inner.Checks.{SearchesBatch, Searches}
use Rattle.programs.proofs.Batches.{took-start, took-batch, took_more, unwell, well-written}

-- a batch is read and searched
pub searches-batch : (before : ℕ) (i j : Input) {old new : List ℕ} {out a : Written} {n : ℕ} {f : Bool} → Reads i old j new → length old ≡ batch_size → n ≡ j.count
    → Finds (searched before (take n new)) out f a → SearchesBatch before i out (record { found = f; input = j }) a
searches-batch before i j {old} {new} {out} {a} {n} {f} R size e F =
    record {
      end = searched before (take n new);
      took = took-batch (over_slots sought) batch_size (passed before) (searched before (take n new)) i j old new R size
          (ap (λ (k : ℕ). searched before (take k new)) e);
      found = F;
    }

-- all that was read
searched-all : (card : List ℕ) {r : Searching} {old new : Written} → r.input.read ≡ length card → Finds (searched 0 card) old r.found new
    → old.bytes ≡ [] → old.room ≡ longest_refusal → Searches r new.bytes
searched-all card {r} {old} {new} l F e h =
    let line : new.bytes ≡ found_line (searched 0 card) = F.text.bytes ∙ ap (λ (xs : List ℕ). xs ++ found_line (searched 0 card)) e in
    record { card = card; read = l; found = F.named; text = line; short = omega (arith, ap length line, F.text.room, h) }

-- i whole batches were searched, and no record of them would be refused
abbrev pub Fine : ℕ → Input → Type 0
Fine i j = TookAll (over_slots sought) (i * batch_size) (passed 0) (passed (i * batch_records)) j

pub fine-start : (j : Input) → j.read ≡ 0 → j.failed ≡ false → Fine 0 j
fine-start j r f = took-start (over_slots sought) batch_size (passed 0) (passed 0) j r f (over_none erasure_bytes sought (passed 0) _)

module _ (i : ℕ) (j : Input) (F : Fine i j) (g : j.going ≡ true) where
  pub fine-readable : i ≤ most_batches → CanRead j
  fine-readable h = record { going = g; well = F.well g; small = omega (arith, F.read, F.came.most) }

  -- nothing is written before a record is named
  pub searches-none : (out : Written) → out.bytes ≡ [] → out.room ≡ longest_refusal → Searches (record { found = false; input = j }) out.bytes
  searches-none out e h =
      searched-all F.came.bytes (omega (arith, F.read))
      (subst (λ (u : Search). Finds u out false out) F.came.content
      (record { named = refl; text = record { bytes = sym (append-nil out.bytes); room = omega arith; rest = refl; lent = refl } })) e h

  -- and one more batch
  module _ {old new : Written} {r : Searching} (B : SearchesBatch (i * batch_records) j old r new) where
    abbrev both : TookAll (over_slots sought) ((i + 1) * batch_size) (passed 0) B.end r.input
    both = took_more (over_slots sought) record_size (in_parts sought) (passed 0) i (passed (i * batch_records)) j F g B.end r.input B.took

    pub searches-some : old.bytes ≡ [] → old.room ≡ longest_refusal → Searches r new.bytes
    searches-some =
        searched-all both.came.bytes (omega (arith, both.read))
        (subst (λ (u : Search). Finds u old r.found new) both.came.content B.found)

    pub fine_more : r.found ≡ false → r.input.going ≡ true → Fine (i + 1) r.input
    fine_more t h =
        let bytes = B.took.came.bytes in
        let all : i * batch_records + record_count (length bytes) ≡ (i + 1) * batch_records = omega (arith, B.took.came.full h) in
        let none = ap names B.took.came.content in
        let end : B.end ≡ passed ((i + 1) * batch_records) =
        B.took.came.content
        ∙ passed-all (i * batch_records) bytes (sym none ∙ (found_none B.end B.found t).0)
        ∙ ap passed all in
        subst (λ (u : Search). TookAll (over_slots sought) ((i + 1) * batch_size) (passed 0) u r.input) end both

    pub same_out : r.found ≡ false → new ≡ old
    same_out t = (found_none B.end B.found t).1

-- ---- the line of the card

ok-line : (u : Search) → names u ≡ false → ok_line ≡ line_of u
ok-line (passed n) e = refl
ok-line (named n r) e = absurd (true≢false e)

found-line : (u : Search) → names u ≡ true → found_line u ≡ line_of u
found-line (passed n) e = absurd (false≢true e)
found-line (named n r) e = refl

-- what a program can answer of a card that was searched
module _ {s : Searching} {line : List ℕ} (S : Searches s line) where
  abbrev check : Bool → Output → Answered
  check any o = record { input = s.input; output = o; status = check_status any s.input o }

  -- a read has failed: nothing is written
  pub answers-failed : (o : Output) → o.written ≡ 0 → s.input.failed ≡ true → ChecksCard (check s.found o)
  answers-failed o z f =
      record {
        card = S.card;
        read = S.read;
        text = λ w h. absurd (false≢true (sym (unwell s.input o f) ∙ w));
        silent = λ h. z;
        status = ap (λ (b : Bool). check_status b s.input o) S.found;
      }

  -- the line
  pub says-found : s.found ≡ true → line ≡ check_text S.card
  unfolding check_text
  says-found t = S.text ∙ found-line (searched 0 S.card) (sym S.found ∙ t)

  pub says-ok : s.found ≡ false → ok_line ≡ check_text S.card
  unfolding check_text
  says-ok t = ok-line (searched 0 S.card) (sym S.found ∙ t)

  module _ (w : s.input.failed ≡ false) where
    -- a record is named
    pub line-found : s.found ≡ true → LineOf s.input line
    line-found t = record { card = S.card; read = S.read; well = w; says = says-found t; behind = inl (sym S.found ∙ t) }

    -- none is, and the input has ended
    pub line_ok : s.found ≡ false → has_ended s.input ≡ true → LineOf s.input ok_line
    line_ok t e = record { card = S.card; read = S.read; well = w; says = says-ok t; behind = inr e }

    -- the line is written
    pub answers-line : (o r : Output) (line : List ℕ) → o.written ≡ 0 → (s.found ≡ true) ⊎ (has_ended s.input ≡ true)
        → line ≡ check_text S.card → Wrote o (length line) r → ChecksCard (check s.found r)
    answers-line o r line z h l W =
        record {
          card = S.card;
          read = S.read;
          text = λ p q. omega (arith, W (well-written s.input r p), z, ap length l);
          silent = λ q. absurd (line-or-none h q);
          status = ap (λ (b : Bool). check_status b s.input r) S.found;
        }
      where
        line-or-none : (s.found ≡ true) ⊎ (has_ended s.input ≡ true)
            → (s.input.failed ≡ true) ⊎ ((names (searched 0 S.card) ≡ false) × (has_ended s.input ≡ false)) → ⊥
        line-or-none a (inl f) = false≢true (sym w ∙ f)
        line-or-none (inl a) (inr b) = true≢false (sym a ∙ S.found ∙ b.0)
        line-or-none (inr a) (inr b) = true≢false (sym a ∙ b.1)

    -- there is nothing to say: the input did not end
    pub answers-nothing : (o : Output) → o.written ≡ 0 → s.found ≡ false → has_ended s.input ≡ false → ChecksCard (check s.found o)
    answers-nothing o z t e =
        record {
          card = S.card;
          read = S.read;
          text = λ p q. absurd (⊎_elim (λ a. true≢false (sym a ∙ sym S.found ∙ t)) (λ a. true≢false (sym a ∙ e)) q);
          silent = λ q. z;
          status = ap (λ (b : Bool). check_status b s.input o) S.found;
        }

-- a short line can be written first of all
pub line-writable : (o : Output) (line : List ℕ) → o.written ≡ 0 → o.ok ≡ true → length line ≤ 105 → CanWrite o (length line)
line-writable o line z k h = record { ok = k; small = omega (arith, z, h) }

-- ---- how the check ended

module _ (found : Bool) (i : Input) (o : Output) where
  pub check-unwell : is_well i o ≡ false → NotDone ≡ check_status found i o
  check-unwell e = ap (λ (b : Bool). cond b (cond found AnsweredNo (cond (has_ended i) Done NotDone)) NotDone) (sym e)

  module _ (e : is_well i o ≡ true) where
    all-well : cond found AnsweredNo (cond (has_ended i) Done NotDone) ≡ check_status found i o
    all-well = ap (λ (b : Bool). cond b (cond found AnsweredNo (cond (has_ended i) Done NotDone)) NotDone) (sym e)

    pub check-refused : found ≡ true → AnsweredNo ≡ check_status found i o
    check-refused f = ap (λ (b : Bool). cond b AnsweredNo (cond (has_ended i) Done NotDone)) (sym f) ∙ all-well

    pub check-ended : found ≡ false → {r : Status} {b : Bool} → r ≡ cond b Done NotDone → b ≡ has_ended i → r ≡ check_status found i o
    check-ended f {r} {b} d h =
        d
        ∙ ap (λ (x : Bool). cond x Done NotDone) h
        ∙ ap (λ (x : Bool). cond x AnsweredNo (cond (has_ended i) Done NotDone)) (sym f)
        ∙ all-well
