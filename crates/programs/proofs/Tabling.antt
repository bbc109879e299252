-- A report from batch to batch, and the table of it. Assumes nothing.
use Rattle.field.proofs.Base.{◌≡◌, refl, sym, ap, ap₂, ◌∙◌, subst, Bool, true, false, false≢true, List, [], ◌∷◌, ◌++◌, ℕ, zero, suc, ◌+◌, ◌*◌, ◌^◌}
use Rattle.field.proofs.Base.{◌≤◌, ◌<◌, arith, lt-ltb, le-ltb, ltb, length, take, take_all, length-append, take_at}
use Rattle.card.specs.Record.{record_size, erasure_bytes}
use Rattle.card.specs.Slots.{record_count}
use Rattle.card.specs.Listing.{most_records, listed_part}
use Rattle.card.specs.Batch.{batch_size}
use Rattle.card.proofs.Folding.{in_parts, over_none}
use Rattle.report.specs.Window.{is_window, no_report, slot_added, part_added, finished, goes_on, report_of, report_size}
use Rattle.report.specs.Table.{table_text}
use Rattle.report.specs.inner.Room.{day_most, Countable}
use Rattle.report.specs.declared.row.Window.{Window}
use Rattle.report.proofs.Reports.{zeros-countable, slots-countable, countable-more, report-countable}
use Rattle.programs.specs.declared.input.Input.{Input}
use Rattle.programs.specs.declared.output.Output.{Output}
use Rattle.programs.specs.declared.status.Status.{Status}
use Rattle.programs.specs.Stream.{Reads, Wrote}
use Rattle.programs.specs.Batches.{seen_all}
use Rattle.programs.specs.Starts.{ReportOf, Tabled, TablesCard, starts_status}
use Rattle.programs.specs.inner.Turns.{CanRead, TookAll}
use Rattle.programs.specs.inner.Reports.{AddsBatch, AddsBatches}
use Rattle.programs.proofs.Batches.{took-start, took-batch, took_more, took-most, goes_further_lem, nothing-more}

module _ (w : Window) where
  -- n bytes of a batch are added
  pub adds-batch : {i j : Input} {old new : List ℕ} (R S : List ℕ) {n : ℕ} → Reads i old j new → length old ≡ batch_size → n ≡ j.count
      → S ≡ part_added w R (take n new) → AddsBatch w i R j S
  adds-batch {i} {j} {old} {new} R S T l e f =
      took-batch (part_added w) batch_size R S i j old new T l (f ∙ ap (λ (x : ℕ). part_added w R (take x new)) e)

  -- before the first batch
  pub adds-start : (R : List ℕ) (j : Input) → R ≡ no_report → j.read ≡ 0 → j.failed ≡ false → TookAll (part_added w) (0 * batch_size) no_report R j
  adds-start R j e r f = took-start (part_added w) batch_size no_report R j r f (e ∙ over_none erasure_bytes (slot_added w) no_report [])

  -- behind i whole batches
  module _ (i : ℕ) {R : List ℕ} {I : Input} (C : TookAll (part_added w) (i * batch_size) no_report R I) (g : I.going ≡ true) where
    pub adds-readable : i ≤ 2500 → CanRead I
    adds-readable h = record { going = g; well = C.well g; small = omega (arith, C.read, C.came.most) }

    pub adds-countable : is_window w ≡ true → i ≤ 2500 → Countable (2 ^ 62) R
    adds-countable wh h =
        let bytes = C.came.bytes in
        let k = record_count (length bytes) in
        let few : k ≤ most_records = omega (arith, C.came.most) in
        rw C.came.content
        (countable-more (0 + k * day_most) (2 ^ 62) (omega arith) (part_added w no_report bytes)
        (slots-countable w wh 0 no_report (zeros-countable 0 report_size refl) bytes k))

    pub adds-all : i ≡ 2500 → AddsBatches w I R
    adds-all e = subst (λ (x : ℕ). TookAll (part_added w) (x * batch_size) no_report R I) e C

    -- and one more
    module _ {S : List ℕ} {J : Input} (D : AddsBatch w I R J S) where
      pub adds-more : TookAll (part_added w) ((i + 1) * batch_size) no_report S J
      adds-more = took_more (part_added w) record_size (in_parts (slot_added w)) no_report i R I C g S J D

      pub adds-end : i < 2500 → J.going ≡ false → AddsBatches w J S
      adds-end h e = took-most ((i + 1) * batch_size) (most_records * record_size) adds-more e (omega arith)

-- ---- the report of the card

-- all was read
seen-ended : (n : ℕ) (i : Input) → i.going ≡ false → i.failed ≡ false → seen_all n i ≡ true
seen-ended n i g f = rw (g, f)

-- the part of the card that is looked at has entered the report
made : (w : Window) (card part : List ℕ) {more : Bool} {R new : List ℕ} → part ≡ listed_part card → more ≡ goes_on card
    → R ≡ part_added w no_report part → new ≡ finished R more → new ≡ report_of w card
unfolding report_of
made w card part p m a e = e ∙ ap₂ finished (a ∙ ap (part_added w no_report) p) m

module _ (w : Window) {J : Input} {R : List ℕ} (A : AddsBatches w J R) where
  -- the card ends there, or a read failed
  pub reports-end : J.going ≡ false → {new : List ℕ} → new ≡ finished R false → ReportOf w J new
  reports-end g {new} e =
      let C = A.came in
      record {
        card = C.bytes;
        read = omega (arith, A.read);
        content = made w C.bytes C.bytes (sym (take_all (most_records * record_size) C.bytes C.most)) (sym (le-ltb (most_records * record_size) (length C.bytes) C.most)) C.content e;
        stopped = seen-ended (most_records * record_size) J g;
      }

  -- the card may go on, so that all that is looked at was read
  pub reports-readable : J.going ≡ true → CanRead J
  reports-readable g = record { going = g; well = A.well g; small = omega (arith, A.read, A.came.most) }

  -- and then n bytes are read, one at most
  module _ (g : J.going ≡ true) {K : Input} {old one : List ℕ} (T : Reads J old K one) (l : length old ≡ 1) where
    full : length A.came.bytes ≡ most_records * record_size
    full = A.came.full g

    none : (new : List ℕ) → K.count ≡ 0 → new ≡ finished R false → ReportOf w K new
    none new z e =
        record {
          card = A.came.bytes;
          read = omega (arith, A.read, T.total, z);
          content = made w A.came.bytes A.came.bytes (sym (take_all (most_records * record_size) A.came.bytes A.came.most))
              (sym (le-ltb (most_records * record_size) (length A.came.bytes) A.came.most)) A.came.content e;
          stopped = seen-ended (most_records * record_size) K (nothing-more T l z);
        }

    some : (new : List ℕ) → 0 < K.count → new ≡ finished R true → ReportOf w K new
    some new h e =
        let bytes = A.came.bytes in
        let card = bytes ++ 0 ∷ [] in
        let long : length card ≡ length bytes + 1 = length-append bytes (0 ∷ []) in
        let first : K.count ≡ 1 = omega (arith, h, T.most, T.size, l) in
        record {
          card = card;
          read = omega (arith, A.read, T.total, first, long);
          content = made w card bytes (sym (take_at bytes (0 ∷ []) (most_records * record_size) full))
              (sym (lt-ltb (most_records * record_size) (length card) (omega (arith, full, long)))) A.came.content e;
          stopped = λ f. goes_further_lem (most_records * record_size) K (omega (arith, A.read, T.total, first, full));
        }

    pub reports-more : (n : ℕ) → n ≡ K.count → {new : List ℕ} → new ≡ finished R (ltb 0 n) → ReportOf w K new
    reports-more zero e {new} f = none new (sym e) f
    reports-more (suc n) e {new} f = some new (omega (arith, e)) (rw (lt-ltb 0 (suc n) (omega arith)) at f)

-- ---- the table

pub tabled-countable : {w : Window} {i : Input} {R : List ℕ} → Tabled w i R → Countable (2 ^ 63) R
tabled-countable {w} T = rw T.reports.content (report-countable w T.window T.reports.card)

pub tabled : {w : Window} {i : Input} {R : List ℕ} → is_window w ≡ true → ReportOf w i R → i.failed ≡ false → Tabled w i R
tabled wh T f = record { window = wh; reports = T; seen = T.stopped f }

-- nothing was written before it; where the card could not be read, nothing is
module _ {w : Window} {i : Input} {R : List ℕ} (T : ReportOf w i R) (o : Output) (z : o.written ≡ 0) {s : Status} where
  pub tables-nothing : i.failed ≡ true → s ≡ starts_status i o → TablesCard w (record { input = i; output = o; status = s })
  tables-nothing f e =
      record { card = T.card; read = T.read; text = λ g. absurd (false≢true (sym g ∙ f)); silent = λ t. z; status = e }

  pub tables-card : i.failed ≡ false → {p : Output} → Wrote o (length (table_text R)) p → s ≡ starts_status i p
      → TablesCard w (record { input = i; output = p; status = s })
  tables-card f W e =
      let same : length (table_text R) ≡ length (table_text (report_of w T.card)) = ap (λ (x : List ℕ). length (table_text x)) T.content in
      record {
        card = T.card;
        read = T.read;
        text = λ g t. omega (arith, W t, z, same);
        silent = λ t. absurd (false≢true (sym f ∙ t));
        status = e;
      }
