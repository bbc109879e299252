-- The day sheets of a card printed from batch to batch. Assumes nothing.
use Rattle.field.proofs.Base.{◌≡◌, refl, sym, ap, ◌∙◌, true, List, [], ◌++◌, ℕ, ◌+◌, ◌*◌, ◌<◌, ◌≤◌, arith, eq-eqb, ne_eqb, length, take}
use Rattle.field.proofs.Base.{length-append}
use Rattle.card.specs.Record.{erasure_bytes, record_size}
use Rattle.card.specs.Batch.{most_batches}
use Rattle.card.proofs.Folding.{in_parts, over_none}
use Rattle.card_csv.specs.declared.Counts.{Counts}
use Rattle.card_csv.specs.Text.{sheets_header, slot_tallied, slot_sheet_told, sheets_untold, part_sheets, part_counts, untallied}
use Rattle.card_csv.specs.Batch.{sheet_slots, sheet_batch, longest_sheets}
use Rattle.card_csv.proofs.SheetLines.{came-within, lines-in-parts}
use Rattle.programs.specs.inner.Turns.{TookAll, can_go_on}
use Rattle.programs.specs.declared.input.Input.{Input}
use Rattle.programs.specs.declared.output.Output.{Output}
use Rattle.programs.specs.declared.turn.Turn.{Turn}
use Rattle.programs.specs.declared.status.Status.TheVariants.{Done, AnsweredNo}
use Rattle.programs.specs.Stream.{Reads, Wrote}
use Rattle.programs.specs.Sheets.{SheetLines, TellsBatch, TellsCard, sheets_status}
use Rattle.programs.specs.inner.Tells.{TellsNothing, TellReady, TellsSome}
use Rattle.programs.proofs.Batches.{took-start, took-batch}
use Rattle.field.proofs.Ask.{and-true-left, and-true-right}

-- before the first batch
pub tells-start : (t : Turn Counts) → TellsNothing t → TellsSome 0 t
tells-start t B =
    let none : [] ≡ part_sheets untallied [] = ap (λ u. u.text) (over_none erasure_bytes slot_sheet_told (sheets_untold untallied) []) in
    record {
      took = took-start part_counts sheet_batch untallied t.counts t.input B.read B.well
          (B.counts ∙ over_none erasure_bytes slot_tallied untallied []);
      text = λ o. omega (arith, B.text o, ap length none);
      short = λ o. omega (arith, B.text o, B.short);
    }

-- a batch is read, and its lines are written
module _ (t : Turn Counts) {j : Input} {old new : List ℕ} (R : Reads t.input old j new) {n : ℕ} (e : n ≡ j.count) {lines : List ℕ}
    (L : lines ≡ part_sheets t.counts (take n new)) where
  pub batch-sheets : SheetLines lines
  batch-sheets = record { from = t.counts; slots = take n new; lines = L }

  pub tells-batch : {s : Counts} {o : Output} → length old ≡ sheet_batch → s ≡ part_counts t.counts (take n new)
      → length lines ≤ longest_sheets → Wrote t.output (length lines) o → TellsBatch t (record { counts = s; input = j; output = o })
  tells-batch {s} {o} size C room W =
      let same : lines ≡ part_sheets t.counts (take j.count new) = L ∙ ap (λ (k : ℕ). part_sheets t.counts (take k new)) e in
      record {
        took = took-batch part_counts sheet_batch t.counts s t.input j old new R size (C ∙ ap (λ (k : ℕ). part_counts t.counts (take k new)) e);
        wrote = λ p. W p ∙ ap (λ (xs : List ℕ). t.output.written + length xs) same;
        short = omega (arith, ap length same, room);
      }

-- behind i whole batches
module _ (i : ℕ) (t : Turn Counts) (L : TellsSome i t) where
  abbrev bytes : List ℕ
  bytes = L.took.came.bytes

  module _ (h : i < most_batches) (w : can_go_on t ≡ true) where
    g : t.input.going ≡ true
    g = and-true-left t.input.going t.output.ok w

    o : t.output.ok ≡ true
    o = and-true-right t.input.going t.output.ok w

    pub tells-ready : TellReady t
    tells-ready =
        record {
          input = record { going = g; well = L.took.well g; small = omega (arith, L.took.read, L.took.came.most) };
          output = record { ok = o; small = omega (arith, L.short o) };
          counts = came-within (i * sheet_batch) t.counts t.input.going L.took.came (omega arith);
        }

    -- and one more
    module _ (u : Turn Counts) (B : TellsBatch t u) where
      abbrev next : List ℕ
      next = B.took.came.bytes

      whole : length bytes ≡ i * sheet_slots * record_size
      whole = omega (arith, L.took.came.full g)

      both : length (bytes ++ next) ≡ length bytes + length next
      both = length-append bytes next

      abbrev took-next : TookAll part_counts ((i + 1) * sheet_batch) untallied u.counts u.input
      took-next =
          record {
            came = record {
              bytes = bytes ++ next;
              content = B.took.came.content
                  ∙ ap (λ (v : Counts). part_counts v next) L.took.came.content
                  ∙ sym (in_parts slot_tallied bytes next (i * sheet_slots) whole untallied);
              most = omega (arith, both, L.took.came.most, B.took.came.most);
              full = λ n. omega (arith, both, L.took.came.full g, B.took.came.full n);
            };
            read = omega (arith, L.took.read, B.took.read, both);
            well = B.took.well;
          }

      lines_next : length (part_sheets untallied (bytes ++ next)) ≡ length (part_sheets untallied bytes) + length (part_sheets t.counts next)
      lines_next =
          ap length (lines-in-parts bytes next (i * sheet_slots) whole untallied)
          ∙ length-append (part_sheets untallied bytes) (part_sheets (part_counts untallied bytes) next)
          ∙ ap (λ (s : Counts). length (part_sheets untallied bytes) + length (part_sheets s next)) (sym L.took.came.content)

      pub tells_more : TellsSome (i + 1) u
      tells_more =
          record {
            took = took-next;
            text = λ p. omega (arith, B.wrote p, L.text o, lines_next);
            short = λ p. omega (arith, B.wrote p, L.short o, B.short);
          }

  pub tells-card : TellsCard t
  tells-card =
      record {
        card = bytes;
        read = omega (arith, L.took.read);
        counts = L.took.came.content;
        text = λ p. L.text p ∙ sym (length-append sheets_header (part_sheets untallied bytes));
      }

-- ---- how the printing of a whole card ended

module _ (t : Turn Counts) where
  pub sheets-all : t.counts.others ≡ 0 → Done ≡ sheets_status t
  sheets-all e = rw (eq-eqb _ _ e) refl

  pub sheets-some : (t.counts.others ≡ 0 → ⊥) → AnsweredNo ≡ sheets_status t
  sheets-some e = rw (ne_eqb _ _ e) refl
