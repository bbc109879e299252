-- A listing from batch to batch, and its last lines. Assumes nothing.
use Rattle.field.proofs.Base.{◌≡◌, sym, ap, ap₂, ◌∙◌, true, false, false≢true, List, [], ◌∷◌, ◌++◌, inl, ℕ, ◌+◌, ◌*◌, ◌^◌, ◌≤◌, ◌<◌, arith, length}
use Rattle.field.proofs.Base.{take, replicate, length-append, length-replicate}
use native.Mathlib.Nat.{add_assoc}
use Rattle.card.specs.Record.{erasure_bytes, record_size}
use Rattle.card.specs.Slots.{record_count}
use Rattle.card.specs.Listing.{slot_further, part_lines, part_progress, most_records, start, more_line, total_line}
use Rattle.card.specs.Batch.{batch_records, batch_size}
use Rattle.card.specs.declared.Progress.{Progress}
use Rattle.card.proofs.Folding.{in_parts, over_none}
use Rattle.card.proofs.Lines.{listing-batches, listing-short, listing-long}
use Rattle.card.proofs.Bounds.{lines-short}
use Rattle.card.proofs.Coming.{continues-within}
use Rattle.programs.specs.declared.input.Input.{Input}
use Rattle.programs.specs.declared.output.Output.{Output}
use Rattle.programs.specs.declared.turn.Turn.{Turn}
use Rattle.programs.specs.Stream.{Reads, Wrote}
use Rattle.programs.specs.List.{Lines, ListsBatch, ListsCard}
use Rattle.programs.specs.inner.Turns.{CanWrite, BatchReady, Begun, can_go_on}
use Rattle.programs.specs.inner.Lists.{ListsSome, ListsBatches}
use Rattle.programs.proofs.Batches.{took-start, took-batch, took_more, ended-or-failed, goes_further_lem, nothing-more, both_true, goes-going, goes-ok}

-- before the first batch
pub lists-start : (t : Turn Progress) → Begun t → ListsSome 0 t
lists-start t B =
    record {
      took = took-start part_progress batch_size start t.counts t.input B.read B.well
          (B.progress ∙ over_none erasure_bytes slot_further start []);
      text = λ o. omega (arith, B.written, lines-short start [] 0);
    }

-- a batch is read and listed, and its lines are written
module _ (t : Turn Progress) {j : Input} {old new : List ℕ} (R : Reads t.input old j new) {n : ℕ} (e : n ≡ j.count) {lines : List ℕ}
    (L : lines ≡ part_lines t.counts (take n new)) where
  pub batch-lines : Lines lines
  batch-lines = record { from = t.counts; slots = take n new; lines = L }

  pub lists-batch : {s : Progress} {o : Output} → length old ≡ batch_size → s ≡ part_progress t.counts (take n new) → Wrote t.output (length lines) o
      → ListsBatch t (record { counts = s; input = j; output = o })
  lists-batch {s} {o} size C W =
      record {
        took = took-batch part_progress batch_size t.counts s t.input j old new R size (C ∙ ap (λ (k : ℕ). part_progress t.counts (take k new)) e);
        wrote = λ p. W p
            ∙ ap (λ (xs : List ℕ). t.output.written + length xs) (L ∙ ap (λ (k : ℕ). part_lines t.counts (take k new)) e);
      }

-- behind i whole batches
module _ (i : ℕ) (t : Turn Progress) (L : ListsSome (i * batch_size) t) (h : i < 2500) (w : can_go_on t ≡ true) where
  g : t.input.going ≡ true
  g = goes-going t w

  o : t.output.ok ≡ true
  o = goes-ok t w

  abbrev bytes : List ℕ
  bytes = L.took.came.bytes

  pub lists-ready : BatchReady t
  lists-ready =
      let few = L.took.came.most in
      let short = lines-short start bytes (record_count (length bytes)) in
      record {
        input = record { going = g; well = L.took.well g; small = omega (arith, L.took.read, few) };
        output = record { ok = o; small = omega (arith, L.text o, short, few) };
        counts = continues-within i t.counts
            (record { bytes = bytes; content = L.took.came.content; most = few; full = λ b. L.took.came.full g }) (omega arith);
      }

  -- and one more
  pub lists-more : (u : Turn Progress) → ListsBatch t u → ListsSome ((i + 1) * batch_size) u
  lists-more u B =
      let whole : length bytes ≡ i * batch_records * record_size = omega (arith, L.took.came.full g) in
      let next = B.took.came.bytes in
      let parts = (listing-batches bytes next (i * batch_records) whole start).0 in
      record {
        took = took_more part_progress record_size (in_parts slot_further) start i t.counts t.input L.took g u.counts u.input B.took;
        text = λ p. B.wrote p
            ∙ ap (λ (n : ℕ). n + length (part_lines t.counts next)) (L.text o)
            ∙ ap (λ s. length (part_lines start bytes) + length (part_lines s next)) L.took.came.content
            ∙ sym (ap length parts ∙ length-append (part_lines start bytes) (part_lines (part_progress start bytes) next));
      }

-- where it stops
module _ (n : ℕ) (t : Turn Progress) (L : ListsSome n t) (h : n ≤ most_records * record_size) where
  pub lists-stop : can_go_on t ≡ false → ListsBatches t
  lists-stop f = record { n = n; lists = L; most = h; stopped = λ g. absurd (false≢true (sym f ∙ g)) }

  pub lists-full : n ≡ most_records * record_size → ListsBatches t
  lists-full e = record { n = n; lists = L; most = h; stopped = λ g. e }

-- ---- the last lines

module _ (t : Turn Progress) (L : ListsBatches t) where
  abbrev all : List ℕ
  all = L.lists.took.came.bytes

  few : length all ≤ most_records * record_size
  few = omega (arith, L.lists.took.came.most, L.most)

  short : length (part_lines start all) ≤ 84000000
  short = omega (arith, few, lines-short start all (record_count (length all)))

  pub ends-small : t.input.read + 1 < 2 ^ 64
  ends-small = omega (arith, L.lists.took.read, few)

  -- a write has failed before
  pub ends-unwritten : t.output.ok ≡ false → ListsCard t
  ends-unwritten f =
      record {
        card = all;
        read = omega (arith, L.lists.took.read);
        text = λ o. absurd (false≢true (sym f ∙ o));
        stopped = λ o. absurd (false≢true (sym f ∙ o));
      }

  module _ (o : t.output.ok ≡ true) where
    pub last-writable : (n : ℕ) → n ≤ 100 → CanWrite t.output n
    last-writable n h = record { ok = o; small = omega (arith, L.lists.text o, short, h) }

    -- behind the line "more"
    pub more-writable : (m : Output) → Wrote t.output (length more_line) m → m.ok ≡ true → CanWrite m 80
    more-writable m W p = record { ok = p; small = omega (arith, W p, L.lists.text o, short) }

    -- the input does not go on: it has ended, or a read has failed
    pub ends-here : {r : Output} → t.input.going ≡ false → Wrote t.output (length (total_line t.counts.totals)) r
        → ListsCard (record { counts = t.counts; input = t.input; output = r })
    ends-here {r} g W =
        record {
          card = all;
          read = omega (arith, L.lists.took.read);
          text = λ p. W p
              ∙ ap₂ (λ (n : ℕ) (s : Progress). n + length (total_line s.totals)) (L.lists.text o) L.lists.took.came.content
              ∙ sym (ap length (listing-short all few) ∙ length-append (part_lines start all) (total_line (part_progress start all).totals));
          stopped = λ p. ended-or-failed _ t.input g;
        }

    -- the listing is full: one byte more is read
    module _ (g : t.input.going ≡ true) {j : Input} {old new : List ℕ} (R : Reads t.input old j new) (one : length old ≡ 1) {k : ℕ}
        (e : k ≡ j.count) where
      full : length all ≡ most_records * record_size
      full = L.lists.took.came.full g ∙ L.stopped (both_true t.input.going t.output.ok g o)

      pub ends-full : {r : Output} → k ≡ 0 → Wrote t.output (length (total_line t.counts.totals)) r
          → ListsCard (record { counts = t.counts; input = j; output = r })
      ends-full {r} z W =
          record {
            card = all;
            read = omega (arith, R.total, L.lists.took.read);
            text = λ p. W p
                ∙ ap₂ (λ (n : ℕ) (s : Progress). n + length (total_line s.totals)) (L.lists.text o) L.lists.took.came.content
                ∙ sym (ap length (listing-short all few) ∙ length-append (part_lines start all) (total_line (part_progress start all).totals));
            stopped = λ p. ended-or-failed _ j (nothing-more R one (sym e ∙ z));
          }

      pub ends_more : (m : Output) {r : Output} → (k ≡ 0 → ⊥) → Wrote t.output (length more_line) m → m.ok ≡ true
          → Wrote m (length (total_line t.counts.totals)) r
          → ListsCard (record { counts = t.counts; input = j; output = r })
      ends_more m {r} z M mo W =
          let some : 1 ≡ j.count = omega (arith, R.most, R.size, one, e, z) in
          let total = total_line (part_progress start all).totals in
          record {
            card = all ++ 0 ∷ [];
            read = omega (arith, R.total, L.lists.took.read, some, length-append all (0 ∷ []));
            text = λ p. W p
                ∙ ap₂ (λ (n : ℕ) (s : Progress). n + length (total_line s.totals)) (M mo ∙ ap (λ (n : ℕ). n + length more_line) (L.lists.text o))
                L.lists.took.came.content
                ∙ sym (ap length (listing-long all (0 ∷ []) full (omega arith))
                ∙ length-append (part_lines start all) (more_line ++ total)
                ∙ ap (λ (n : ℕ). length (part_lines start all) + n) (length-append more_line total)
                ∙ sym (add_assoc (length (part_lines start all)) (length more_line) (length total)));
            stopped = λ p. inl (goes_further_lem _ j (omega (arith, R.total, L.lists.took.read, some, full)));
          }

      -- the line "more" could not be written
      pub ends-cut : (m : Output) → m.ok ≡ false → ListsCard (record { counts = t.counts; input = j; output = m })
      ends-cut m f =
          let some : List ℕ = replicate j.count 0 in
          record {
            card = all ++ some;
            read = omega (arith, R.total, L.lists.took.read, length-append all some, length-replicate {A = ℕ} j.count 0);
            text = λ p. absurd (false≢true (sym f ∙ p));
            stopped = λ p. absurd (false≢true (sym f ∙ p));
          }
