-- The text slot by slot, how long it is and how far the counts grow; and in parts: the lines and counts of two parts are those of the first
-- and then those of the second. Assumes nothing.
use Rattle.field.proofs.Base.{◌≡◌, refl, sym, ap, ◌∙◌, subst, Bool, true, false, cond, List, ◌++◌, append_assoc, append-nil, ℕ, zero, suc, ◌+◌, ◌*◌}
use Rattle.field.proofs.Base.{◌^◌, ◌≤◌, arith, length}
use lib.Dec.{lit≤}
use Rattle.card.specs.Record.{erasure_bytes, record_size}
use Rattle.card.specs.Slots.{record_count, record_at, is_blank, over_first, over_slots, Came}
use Rattle.card.specs.Batch.{batch_records, batch_size as card_batch, most_batches}
use Rattle.card.specs.Text.{Written, Appends}
use Rattle.card.proofs.Folding.{over-more, over-map, in_parts}
use Rattle.card.proofs.Writing.{appends-on}
use Rattle.report.specs.Day.{Day, sheet, no_sheet, day_of}
use Rattle.card_csv.specs.declared.Counts.{Counts}
use Rattle.card_csv.specs.Text.{slot_sheet, blank_tally, day_counted, slot_tallied}
use Rattle.card_csv.specs.Text.{SheetsTold, slot_sheet_told, sheets_untold, part_sheets, part_counts, untallied}
use Rattle.card_csv.specs.inner.Room.{TallyWithin}

-- ---- slot by slot

-- with a slot more
lists-on : (t : SheetsTold) (slot : List ℕ) {u next : Counts} {a b c : Written} → Appends a t.text b → u ≡ t.counts
    → Appends b (slot_sheet u.next slot) c → next ≡ slot_tallied u slot
    → Appends a (slot_sheet_told t slot).text c × (next ≡ (slot_sheet_told t slot).counts)
lists-on t slot w p v q = (rw (← p) (appends-on w v), q ∙ ap (λ (u : Counts). slot_tallied u slot) p)

-- the first i slots of a batch
module _ (s : Counts) (batch : List ℕ) where
  abbrev pub told_first : ℕ → SheetsTold
  told_first i = over_first erasure_bytes slot_sheet_told (sheets_untold s) batch i

  pub lists-more : (i : ℕ) (slot : List ℕ) → slot ≡ record_at batch i → {u next : Counts} {a b c : Written}
      → Appends a (told_first i).text b → u ≡ (told_first i).counts
      → Appends b (slot_sheet u.next slot) c → next ≡ slot_tallied u slot
      → Appends a (told_first (i + 1)).text c × (next ≡ (told_first (i + 1)).counts)
  lists-more i slot e {u} {next} {a} {b} {c} w p v q =
      subst (λ (t : SheetsTold). Appends a t.text c × (next ≡ t.counts))
      (ap (slot_sheet_told (told_first i)) e ∙ over-more erasure_bytes slot_sheet_told (sheets_untold s) batch i) (lists-on (told_first i) slot w p v q)

  -- what has been counted
  pub told-counts : (i : ℕ) → (over_first erasure_bytes slot_sheet_told (sheets_untold s) batch i).counts ≡ over_first erasure_bytes slot_tallied s batch i
  told-counts i = over-map erasure_bytes slot_sheet_told slot_tallied (λ (t : SheetsTold). t.counts) (λ t slot. refl) (sheets_untold s) batch i

-- ---- how far the counts grow

-- k slots were counted from s to u
record Grown (k : ℕ) (s u : Counts) : Type 0 where
  next : u.next ≡ s.next + k
  sheets : u.sheets ≤ s.sheets + k
  others : u.others ≤ s.others + k
  blanks : u.blanks ≤ s.blanks + k

grown-slot : (k : ℕ) (s u : Counts) (slot : List ℕ) → Grown k s u → Grown (suc k) s (slot_tallied u slot)
grown-slot k s u slot G = go (is_blank slot) (day_of slot)
  where
    go : (b : Bool) (d : Day) → Grown (suc k) s (cond b (blank_tally u) (day_counted u d))
    go true d = omega arith
    go false (sheet n ss) = omega arith
    go false (no_sheet n) = omega arith

counts-grown : (s : Counts) (part : List ℕ) (k : ℕ) → Grown k s (over_first erasure_bytes slot_tallied s part k)
unfolding over_first
counts-grown s part zero = omega arith
counts-grown s part (suc k) = grown-slot k s (over_first erasure_bytes slot_tallied s part k) (record_at part k) (counts-grown s part k)

-- where s has become u, over k slots
pub counts-within : (b c : ℕ) (s u : Counts) (part : List ℕ) (k : ℕ) → u ≡ over_first erasure_bytes slot_tallied s part k → TallyWithin b s → b + k ≤ c
    → TallyWithin c u
counts-within b c s u part k e W h = let G = counts-grown s part k in rw e (omega arith)

-- so the counts of a card that comes in batches are small
pub came-within : (n : ℕ) (s : Counts) (going : Bool) → Came part_counts n untallied s going → n ≤ most_batches * card_batch → TallyWithin (2 ^ 62) s
came-within n s going C h =
    let few : record_count (length C.bytes) ≤ most_batches * batch_records = omega (arith, C.most) in
    counts-within 1 (2 ^ 62) untallied s C.bytes (record_count (length C.bytes)) C.content
    (record { next = lit≤ tt; sheets = lit≤ tt; others = lit≤ tt; blanks = lit≤ tt }) (omega arith)

-- ---- two parts, the first of j whole slots

-- text that stands before the lines of a part
told-front : (t : SheetsTold) (part : List ℕ) → (over_slots slot_sheet_told t part).text ≡ t.text ++ part_sheets t.counts part
told-front t part =
    ap (λ (u : SheetsTold). u.text)
    (sym (over-map erasure_bytes slot_sheet_told slot_sheet_told before
    (λ u slot. ap (told (slot_tallied u.counts slot)) (sym (append_assoc t.text u.text _)))
    (sheets_untold t.counts) part (record_count (length part))
    ∙ ap (λ (xs : List ℕ). over_slots slot_sheet_told (told t.counts xs) part) (append-nil t.text)))
  where
    told : Counts → List ℕ → SheetsTold
    told = λ s xs. record { text = xs; counts = s }

    before : SheetsTold → SheetsTold
    before = λ u. told u.counts (t.text ++ u.text)

pub lines-in-parts : (a b : List ℕ) (j : ℕ) → length a ≡ j * record_size → (s : Counts)
    → part_sheets s (a ++ b) ≡ part_sheets s a ++ part_sheets (part_counts s a) b
lines-in-parts a b j whole s =
    ap (λ (t : SheetsTold). t.text) (in_parts slot_sheet_told a b j whole (sheets_untold s))
    ∙ told-front (over_slots slot_sheet_told (sheets_untold s) a) b
    ∙ ap (λ (u : Counts). part_sheets s a ++ part_sheets u b) (told-counts s a (record_count (length a)))
