-- A card restored from batch to batch. Assumes nothing.
use Rattle.field.proofs.Base.{◌≡◌, refl, sym, ap, ◌∙◌, true, List, [], ℕ, ◌+◌, ◌*◌, ◌<◌, arith, eq-eqb, ne_eqb, length, take}
use Rattle.field.proofs.Base.{length-append}
use Rattle.card.specs.declared.Progress.{Progress}
use Rattle.card.specs.Record.{erasure_bytes, record_size, record_up_to}
use Rattle.card.specs.Listing.{further_by, progress_up_to, start}
use Rattle.card.specs.Batch.{batch_size, most_batches}
use Rattle.card.proofs.Folding.{in_parts, over_none}
use Rattle.card.proofs.Coming.{up-to-within}
use Rattle.walk.specs.Restored.{restored_up_to}
use Rattle.walk.specs.inner.Parts.{Sound}
use Rattle.walk.proofs.Tallying.{counts-sound}
use Rattle.walk.specs.Counting.{CountsCard}
use Rattle.walk.proofs.Restoring.{card-again-up-to, card-not-otherwise}
use Rattle.programs.specs.declared.input.Input.{Input}
use Rattle.programs.specs.declared.output.Output.{Output}
use Rattle.programs.specs.declared.turn.Turn.{Turn}
use Rattle.programs.specs.declared.cardrestore.Restored.{Restored}
use Rattle.programs.specs.declared.status.Status.TheVariants.{Done, AnsweredNo}
use Rattle.programs.specs.Stream.{Reads, Wrote}
use Rattle.programs.specs.Restore.{RestoresBatch, RestoresCard, restore_status}
use Rattle.programs.specs.inner.Turns.{CanWrite, BatchReady, Begun, can_go_on}
use Rattle.programs.specs.inner.Restores.{RestoresPart, RestoresSome}
use Rattle.programs.proofs.Batches.{took-start, took-batch, took_more, goes-going, goes-ok}

module _ (most : ℕ) where
  -- before the first batch
  pub restores-start : (t : Turn Progress) → Begun t → RestoresSome 0 most t
  restores-start t B =
      record {
        took = took-start (progress_up_to most) batch_size start t.counts t.input B.read B.well
            (B.progress ∙ over_none erasure_bytes (further_by (record_up_to most)) start []);
        wrote = λ o. B.written;
      }

  -- a part is restored and written; it had this length before
  module _ (s : Progress) (o : Output) {old new : List ℕ} {u : Progress} (C : CountsCard most s old u new) where
    same_size : length new ≡ length old
    same_size = ap length C.content ∙ (card-not-otherwise most old).size

    pub restored-writable : CanWrite o (length old) → CanWrite o (length new) × (restored_up_to most new ≡ new)
    restored-writable W = (
      record { ok = W.ok; small = omega (arith, W.small, same_size) },
      ap (restored_up_to most) C.content ∙ card-again-up-to most old ∙ sym C.content,
    )

    pub restored-part : {r : Output} → Wrote o (length new) r → RestoresPart most s o old (record { progress = u; output = r })
    restored-part W = record { progress = C.progress; wrote = λ p. W p ∙ ap (λ (n : ℕ). o.written + n) same_size }

  -- a batch is read, restored and written
  pub restores-batch : (t : Turn Progress) {j : Input} {old new : List ℕ} → Reads t.input old j new → length old ≡ batch_size → {n : ℕ} → n ≡ j.count
      → {r : Restored} → RestoresPart most t.counts t.output (take n new) r
      → RestoresBatch most t (record { counts = r.progress; input = j; output = r.output })
  restores-batch t {j} {old} {new} R size {n} e {r} P =
      record {
        took = took-batch (progress_up_to most) batch_size t.counts r.progress t.input j old new R size
            (P.progress ∙ ap (λ (k : ℕ). progress_up_to most t.counts (take k new)) e);
        wrote = λ p. P.wrote p ∙ ap (λ (k : ℕ). t.output.written + length (take k new)) e;
      }

  -- behind i whole batches
  module _ (i : ℕ) (t : Turn Progress) (L : RestoresSome (i * batch_size) most t) where
    abbrev bytes : List ℕ
    bytes = L.took.came.bytes

    module _ (h : i < most_batches) (w : can_go_on t ≡ true) where
      g : t.input.going ≡ true
      g = goes-going t w

      o : t.output.ok ≡ true
      o = goes-ok t w

      pub restores-ready : BatchReady t
      restores-ready =
          record {
            input = record { going = g; well = L.took.well g; small = omega (arith, L.took.read, L.took.came.most) };
            output = record { ok = o; small = omega (arith, L.wrote o, L.took.came.most) };
            counts = up-to-within most i t.counts
                (record { bytes = bytes; content = L.took.came.content; most = L.took.came.most; full = λ b. L.took.came.full g })
                (omega arith);
          }

      -- and one more
      pub restores-more : (u : Turn Progress) → RestoresBatch most t u → RestoresSome ((i + 1) * batch_size) most u
      restores-more u B =
          record {
            took = took_more (progress_up_to most) record_size (in_parts (further_by (record_up_to most))) start i t.counts t.input L.took g
                u.counts u.input B.took;
            wrote = λ p. omega (arith, B.wrote p, L.wrote o, length-append bytes B.took.came.bytes);
          }

    pub restores-card : RestoresCard most t
    restores-card = record { card = bytes; read = omega (arith, L.took.read); progress = L.took.came.content; wrote = L.wrote }

  -- no more records are counted than slots
  pub restored-sound : (t : Turn Progress) → RestoresCard most t → Sound t.counts
  restored-sound t R = counts-sound (record_up_to most) R.card t.counts R.progress

-- ---- how the restoring of a whole card ended

module _ (t : Turn Progress) where
  pub restored-all : t.counts.totals.refused ≡ 0 → Done ≡ restore_status t
  restored-all e = rw (eq-eqb _ _ e) refl

  pub restored-some : (t.counts.totals.refused ≡ 0 → ⊥) → AnsweredNo ≡ restore_status t
  restored-some e = rw (ne_eqb _ _ e) refl
