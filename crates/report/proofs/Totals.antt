-- What the report says: every slot is counted once, the mean, and the highest count with its earliest date. Assumes nothing.
use Rattle.field.proofs.Base.{◌≡◌, refl, sym, ap, ap₂, ◌∙◌, subst, ◌⊎◌, inl, inr, Bool, true, false, cond, ◌||◌, false≢true, List, ℕ, zero, suc, ◌+◌}
use Rattle.field.proofs.Base.{◌-◌, ◌*◌, ◌≤◌, ◌<◌, ℕ_discrete, arith, eq-eqb, ne_eqb, eqb-true, eqb-false, leb-true, lt-ltb, le-ltb, eqb, leb, length}
use Rattle.field.proofs.Base.{get_or, set, take, drop, replicate, take-append-drop, length-take, length-drop, length-replicate, take_all, get_or-take}
use Rattle.field.proofs.Base.{get_or-drop, get_or-set_same, get_or-set_other, ext_get_or, length-take-le}
use native.Mathlib.Nat.{div-add-mod', mod-lt}
use borrow.Author.Tests.{leb-false}
use lib.ListN.{get_or-replicate}
use Rattle.field.specs.Question.{accepted, refused}
use Rattle.code.specs.Word.{at}
use Rattle.code.specs.Demands.{occurs}
use Rattle.card.specs.Record.{erasure_bytes, record_size}
use Rattle.card.specs.Slots.{record_count, record_at, is_blank, over_first}
use Rattle.card.specs.Listing.{most_records, listed_part}
use Rattle.card.proofs.Blank.{blank-refused}
use Rattle.card.proofs.Folding.{over-same}
use Rattle.card.proofs.Lines.{record-front}
use Rattle.sheet.specs.Sheet.{pump_at}
use Rattle.report.specs.Day.{Day, sheet, no_sheet, day_of}
use Rattle.report.specs.Window.{is_window, counts_in, starts_sum, full_count, highest_of, counts_of, date_of, below, earlier, leads, peak_of, row_with}
use Rattle.report.specs.Window.{pumps, row_size, refused_at, blank_at, more_at, report_size, row_from, row_of, with_row, one_more, no_report}
use Rattle.report.specs.Window.{day_added, slot_added, part_added, goes_on, report_of}
use Rattle.report.specs.inner.Room.{Countable}
use Rattle.report.specs.Demands.{looked, sheets_below, summed, total_over, of_sheet, of_pump, PumpTotals, one_blank, one_unread, one_refused, no_row, CountAt}
use Rattle.report.specs.Demands.{Highest}
use Rattle.report.specs.declared.row.Window.{Window}
use Rattle.report.specs.declared.row.Date.{Date}
use Rattle.report.specs.declared.row.Peak.{Peak}
use Rattle.report.specs.declared.row.Row.{Row}
use Rattle.report.proofs.Days.{is-sheet}
use Rattle.report.proofs.Order.{below-means, below-not, earlier-irreflexive, earlier-transitive}
use Rattle.report.proofs.Counting.{window-first, counts-long, counts-at, highest-all, highest-some}
use Rattle.report.proofs.Reports.{same_row, other_row, last-kept, row_kept, row_fits, zeros-countable, pump-small, slots_added, slots-countable}

-- ---- the highest count and its date, with a further sheet

-- no count of one sheet, whose highest is c on the date d, is above the peak, and as high a one is not on an earlier date
abbrev Behind : ℕ → Date → Peak → Type 0
Behind c d q = (c ≤ q.count) × (c ≡ q.count → earlier d q.date ≡ false)

record Taken (sheets : ℕ) (old new q : Peak) : Type 0 where
  which : (q ≡ new) ⊎ ((0 < sheets) × (q ≡ old))
  further : Behind new.count new.date q
  before : 0 < sheets → (c : ℕ) (d : Date) → Behind c d old → Behind c d q

not_earlier : (a b c : Date) → earlier a c ≡ false → earlier b c ≡ true → earlier a b ≡ false
not_earlier a b c p q = go (earlier a b) refl
  where
    go : (x : Bool) → earlier a b ≡ x → earlier a b ≡ false
    go true e = absurd (false≢true (sym p ∙ earlier-transitive a b c e q))
    go false e = e

module _ (sheets : ℕ) (old new : Peak) where
  -- the further sheet leads
  taken-new : (0 < sheets → (old.count < new.count) ⊎ ((old.count ≡ new.count) × (earlier new.date old.date ≡ true))) → Taken sheets old new new
  taken-new h = record {
    which = inl refl;
    further = (omega arith, λ e. earlier-irreflexive new.date);
    before = λ some c d B. go c d B (h some);
  }
    where
      go : (c : ℕ) (d : Date) → Behind c d old → (old.count < new.count) ⊎ ((old.count ≡ new.count) × (earlier new.date old.date ≡ true))
          → Behind c d new
      go c d B (inl l) = (omega (arith, B.0), λ e. absurd (omega (arith, B.0, e)))
      go c d B (inr l) =
          (omega (arith, B.0, l.0), λ e. not_earlier d new.date old.date (B.1 (e ∙ sym l.0)) l.1)

  -- it does not
  taken-old : 0 < sheets → (new.count < old.count) ⊎ ((old.count ≡ new.count) × (earlier new.date old.date ≡ false)) → Taken sheets old new old
  taken-old some h = record { which = inr (some, refl); further = go h; before = λ s c d B. B }
    where
      go : (new.count < old.count) ⊎ ((old.count ≡ new.count) × (earlier new.date old.date ≡ false)) → Behind new.count new.date old
      go (inl l) = (omega arith, λ e. absurd (omega (arith, e)))
      go (inr l) = (omega (arith, l.0), λ e. l.1)

  taken : Taken sheets old new (peak_of sheets old new)
  unfolding leads
  taken = go (eqb sheets 0) (below old.count new.count (earlier new.date old.date)) refl refl
    where
      go : (a b : Bool) → eqb sheets 0 ≡ a → below old.count new.count (earlier new.date old.date) ≡ b
          → Taken sheets old new (cond (a || b) new old)
      go true b ea eb = taken-new (λ some. absurd (omega (arith, eqb-true sheets 0 ea)))
      go false true ea eb = taken-new (λ some. below-means old.count new.count _ eb)
      go false false ea eb =
          let some : sheets ≡ 0 → ⊥ = eqb-false sheets 0 ea in
          taken-old (omega (arith, some)) (below-not old.count new.count _ eb)

-- ---- the first k slots of a part: a slot that is a day sheet of pump p

record IsOf (part : List ℕ) (p i n : ℕ) (ss : List ℕ) : Type 0 where
  day : day_of (record_at part i) ≡ sheet n ss
  pump : at ss pump_at ≡ p

-- what the row of pump p says of them
record Seen (w : Window) (part : List ℕ) (k p : ℕ) (r : Row) : Type 0 where
  none : r.sheets ≡ 0 → r ≡ no_row
  mean : 0 < r.sheets → (r.quotient * r.sheets + r.remainder ≡ r.sum) × (r.remainder < r.sheets)
  some : 0 < r.sheets
      → (i : ℕ) × ((n : ℕ) × ((ss : List ℕ) × ((i < k) × (IsOf part p i n ss × ((highest_of (counts_in w ss) ≡ r.peak.count) × (date_of ss ≡ r.peak.date))))))
  all : (i n : ℕ) (ss : List ℕ) → i < k → IsOf part p i n ss → (0 < r.sheets) × Behind (highest_of (counts_in w ss)) (date_of ss) r.peak

same-sheet : (d : Day) (n m : ℕ) (ss ts : List ℕ) → d ≡ sheet n ss → d ≡ sheet m ts → ss ≡ ts
same-sheet d n m ss ts e f = cc

module _ (w : Window) (part : List ℕ) (k p : ℕ) (r : Row) (Z : Seen w part k p r) where
  -- a slot that is no day sheet of the pump
  seen_other : ((n : ℕ) (ss : List ℕ) → IsOf part p k n ss → ⊥) → Seen w part (suc k) p r
  seen_other never = record {
    none = Z.none;
    mean = Z.mean;
    some = λ h. let s = Z.some h in (s.0, (s.1.0, (s.1.1.0, (omega (arith, s.1.1.1.0), s.1.1.1.1))));
    all = λ i n ss h I. go i n ss h I (ℕ_discrete i k);
  }
    where
      go : (i n : ℕ) (ss : List ℕ) → i < suc k → IsOf part p i n ss → Dec (i ≡ k)
          → (0 < r.sheets) × Behind (highest_of (counts_in w ss)) (date_of ss) r.peak
      go i n ss h I (yes e) = absurd (never n ss (subst (λ (j : ℕ). IsOf part p j n ss) e I))
      go i n ss h I (no d) = Z.all i n ss (omega (arith, d)) I

  -- and one that is
  seen-sheet : (n : ℕ) (ss : List ℕ) → IsOf part p k n ss → Seen w part (suc k) p (row_with w r ss)
  unfolding row_with counts_of
  seen-sheet n ss I = record {
    none = λ e. absurd (omega (arith, e));
    mean = λ h. (div-add-mod' (r.sum + (counts_of (counts_in w ss)).sum) (r.sheets + 1), mod-lt (r.sum + (counts_of (counts_in w ss)).sum) (omega arith));
    some = λ h. reached K.which;
    all = λ i m ts h J. (omega arith, go i m ts h J (ℕ_discrete i k));
  }
    where
      K : Taken r.sheets r.peak (record { count = highest_of (counts_in w ss); date = date_of ss }) (row_with w r ss).peak
      K = taken r.sheets r.peak (record { count = highest_of (counts_in w ss); date = date_of ss })

      reached : ((row_with w r ss).peak ≡ record { count = highest_of (counts_in w ss); date = date_of ss }) ⊎ ((0 < r.sheets) × ((row_with w r ss).peak ≡ r.peak))
          → (i : ℕ) × ((m : ℕ) × ((ts : List ℕ) × ((i < suc k) × (IsOf part p i m ts
          × ((highest_of (counts_in w ts) ≡ (row_with w r ss).peak.count) × (date_of ts ≡ (row_with w r ss).peak.date))))))
      reached (inl e) = (k, (n, (ss, (omega arith, (I, (sym (ap (λ (q : Peak). q.count) e), sym (ap (λ (q : Peak). q.date) e)))))))
      reached (inr e) =
          let s = Z.some e.0 in
          let f = s.1.1.1 in (
            s.0,
            (
              s.1.0,
              (
                s.1.1.0,
                (
                  omega (arith, f.0),
                  (f.1.0, (f.1.1.0 ∙ sym (ap (λ (q : Peak). q.count) e.1), f.1.1.1 ∙ sym (ap (λ (q : Peak). q.date) e.1))),
                ),
              ),
            ),
          )

      go : (i m : ℕ) (ts : List ℕ) → i < suc k → IsOf part p i m ts → Dec (i ≡ k) → Behind (highest_of (counts_in w ts)) (date_of ts) (row_with w r ss).peak
      go i m ts h J (yes e) =
          let same : ss ≡ ts = same-sheet (day_of (record_at part k)) n m ss ts I.day (subst (λ (j : ℕ). day_of (record_at part j) ≡ sheet m ts) e J.day) in
          subst (λ (us : List ℕ). Behind (highest_of (counts_in w us)) (date_of us) (row_with w r ss).peak) same K.further
      go i m ts h J (no d) =
          let old = Z.all i m ts (omega (arith, d)) J in
          K.before old.0 (highest_of (counts_in w ts)) (date_of ts) old.1

-- ---- before the first slot

seen_none : (w : Window) (part : List ℕ) (p : ℕ) → Seen w part 0 p no_row
seen_none w part p = record {
  none = λ e. refl;
  mean = λ h. absurd (omega (arith, h));
  some = λ h. absurd (omega (arith, h));
  all = λ i n ss h I. absurd (omega arith);
}

abbrev zeros : ℕ → List ℕ
zeros n = replicate n 0

zero-at : (n i : ℕ) → i < n → at (zeros n) i ≡ 0
zero-at n i h = get_or-replicate n i 0 0 h

zero_row : (n p : ℕ) → p * row_size + row_size ≤ n → row_of (zeros n) p ≡ no_row
zero_row n p h = ap row_from (ext_get_or 0 (take row_size (drop (p * row_size) (zeros n))) (zeros row_size) long same)
  where
    long : length (take row_size (drop (p * row_size) (zeros n))) ≡ length (zeros row_size)
    long = simp (length-take, length-drop, length-replicate) (omega arith)

    same : (k : ℕ) → k < length (take row_size (drop (p * row_size) (zeros n)))
        → get_or (take row_size (drop (p * row_size) (zeros n))) k 0 ≡ get_or (zeros row_size) k 0
    same k l =
        let m : k < row_size = omega (arith, length-take row_size (drop (p * row_size) (zeros n))) in
        get_or-take row_size (drop (p * row_size) (zeros n)) k 0 m
        ∙ get_or-drop (p * row_size) (zeros n) k 0
        ∙ zero-at n (p * row_size + k) (omega arith)
        ∙ sym (zero-at row_size k m)

-- ---- the sheets of all pumps

zero-sheets : (n m : ℕ) → m * row_size ≤ n → sheets_below m (zeros n) ≡ 0
unfolding sheets_below
zero-sheets n zero h = refl
zero-sheets n (suc m) h =
    omega (arith, zero-sheets n m (omega arith), ap (λ (r : Row). r.sheets) (zero_row n m (omega arith)))

sheets-kept : (X : List ℕ) (i v m : ℕ) → m ≤ pumps → refused_at ≤ i → sheets_below m (set X i v) ≡ sheets_below m X
unfolding sheets_below
sheets-kept X i v zero h l = refl
sheets-kept X i v (suc m) h l = ap₂ ◌+◌ (sheets-kept X i v m (omega arith) l) (ap (λ (r : Row). r.sheets) (row_kept X i v m (omega arith) l))

module _ (X : List ℕ) (p : ℕ) (x : Row) (fits : p * row_size + row_size ≤ length X) where
  sheets-before : (m : ℕ) → m ≤ p → sheets_below m (with_row X p x) ≡ sheets_below m X
  unfolding sheets_below
  sheets-before zero h = refl
  sheets-before (suc m) h =
      ap₂ ◌+◌ (sheets-before m (omega arith)) (ap (λ (r : Row). r.sheets) (other_row X p x fits m (λ e. omega arith)))

  sheets-behind : (m : ℕ) → p < m → sheets_below m (with_row X p x) + (row_of X p).sheets ≡ sheets_below m X + x.sheets
  unfolding sheets_below
  sheets-behind zero h = absurd (omega arith)
  sheets-behind (suc m) h = go (ℕ_discrete m p) (λ l. sheets-behind m l)
    where
      go : Dec (m ≡ p) → (p < m → sheets_below m (with_row X p x) + (row_of X p).sheets ≡ sheets_below m X + x.sheets)
          → sheets_below m (with_row X p x) + (row_of (with_row X p x) m).sheets + (row_of X p).sheets ≡ sheets_below m X + (row_of X m).sheets + x.sheets
      go (yes e) next =
          omega (
            arith,
            sheets-before m (omega arith),
            ap (λ (s : ℕ). (row_of (with_row X p x) s).sheets) e ∙ ap (λ (r : Row). r.sheets) (same_row X p x fits),
            ap (λ (s : ℕ). (row_of X s).sheets) e,
          )
      go (no d) next = omega (arith, next (omega (arith, d)), ap (λ (r : Row). r.sheets) (other_row X p x fits m d))

one-sheet : (w : Window) (r : Row) (ss : List ℕ) → (row_with w r ss).sheets ≡ r.sheets + 1
unfolding row_with
one-sheet w r ss = refl

sum_more : (w : Window) (r : Row) (ss : List ℕ) → (row_with w r ss).sum ≡ r.sum + starts_sum (counts_in w ss)
unfolding row_with counts_of
sum_more w r ss = refl

full-more : (w : Window) (r : Row) (ss : List ℕ) → (row_with w r ss).full ≡ r.full + occurs full_count (counts_in w ss)
unfolding row_with counts_of
full-more w r ss = refl

-- ---- slot by slot

-- a number of each slot, added up over the first k slots of a part
abbrev total_first : (List ℕ → ℕ) → List ℕ → ℕ → ℕ
total_first f part k = over_first erasure_bytes (summed f) 0 part k

-- a blank slot is no day sheet
blank-no-sheet : (slot : List ℕ) (n : ℕ) (ss : List ℕ) → is_blank slot ≡ true → day_of slot ≡ sheet n ss → ⊥
blank-no-sheet slot n ss b e =
    let f : refused 1 ≡ accepted n = sym (blank-refused slot b).0 ∙ (is-sheet slot n ss e).restored in
    let z : ◌≡◌ {A = ℕ} 0 1 = cc in
    omega arith

module _ (w : Window) (wh : is_window w ≡ true) (part : List ℕ) where
  -- the report behind the first k slots
  abbrev R : ℕ → List ℕ
  R k = slots_added w no_report part k

  countable : (k : ℕ) → Countable (0 + k * 12192) (R k)
  countable k = slots-countable w wh 0 no_report (zeros-countable 0 report_size refl) part k

  -- the next slot is blank, refused or a day sheet
  data Slot (k : ℕ) : Type 0 where
    blank : is_blank (record_at part k) ≡ true → R (suc k) ≡ one_more blank_at (R k) → Slot k
    none : (n : ℕ) → is_blank (record_at part k) ≡ false → day_of (record_at part k) ≡ no_sheet n → R (suc k) ≡ one_more refused_at (R k) → Slot k
    some : (n : ℕ) (ss : List ℕ) → is_blank (record_at part k) ≡ false → day_of (record_at part k) ≡ sheet n ss
        → R (suc k) ≡ with_row (R k) (at ss pump_at) (row_with w (row_of (R k) (at ss pump_at)) ss) → Slot k

  slot : (k : ℕ) → Slot k
  unfolding over_first slot_added
  slot k = go (is_blank (record_at part k)) (day_of (record_at part k)) refl refl
    where
      added : (b : Bool) (d : Day) → is_blank (record_at part k) ≡ b → day_of (record_at part k) ≡ d
          → R (suc k) ≡ cond b (one_more blank_at (R k)) (day_added w (R k) d)
      added b d eb ed = ap₂ (λ (c : Bool) (x : Day). cond c (one_more blank_at (R k)) (day_added w (R k) x)) eb ed

      go : (b : Bool) (d : Day) → is_blank (record_at part k) ≡ b → day_of (record_at part k) ≡ d → Slot k
      go true d eb ed = blank eb (added true d eb ed)
      go false (no_sheet n) eb ed = none n eb ed (added false (no_sheet n) eb ed)
      go false (sheet n ss) eb ed = some n ss eb ed (added false (sheet n ss) eb ed)

  -- the pump of a sheet has a row
  pump-row : (k n : ℕ) (ss : List ℕ) → day_of (record_at part k) ≡ sheet n ss → at ss pump_at < pumps
  pump-row k n ss d = pump-small ss (is-sheet (record_at part k) n ss d).symbols

  pump-fits : (k n : ℕ) (ss : List ℕ) → day_of (record_at part k) ≡ sheet n ss → at ss pump_at * row_size + row_size ≤ length (R k)
  pump-fits k n ss d = row_fits _ (R k) (countable k) (at ss pump_at) (pump-row k n ss d)

  -- the row of each pump
  module _ (p : ℕ) (h : p < pumps) where
    -- it is kept, where the slot is no day sheet of the pump, or has the further sheet
    data Next (k : ℕ) : Type 0 where
      kept : row_of (R (suc k)) p ≡ row_of (R k) p → ((n : ℕ) (ss : List ℕ) → IsOf part p k n ss → ⊥) → Next k
      more : (n : ℕ) (ss : List ℕ) → IsOf part p k n ss → row_of (R (suc k)) p ≡ row_with w (row_of (R k) p) ss → Next k

    next : (k : ℕ) → Next k
    next k = go (slot k)
      where
        go : Slot k → Next k
        go (blank b e) =
            kept (ap (λ (x : List ℕ). row_of x p) e ∙ row_kept (R k) blank_at _ p h (omega arith))
            (λ n ss I. blank-no-sheet (record_at part k) n ss b I.day)
        go (none n b d e) =
            kept (ap (λ (x : List ℕ). row_of x p) e ∙ row_kept (R k) refused_at _ p h (omega arith))
            (λ m ss I. let f : no_sheet n ≡ sheet m ss = sym d ∙ I.day in let z : ◌≡◌ {A = ℕ} 0 1 = cc in omega arith)
        go (some n ss b d e) = here (ℕ_discrete p (at ss pump_at))
          where
            new : Row
            new = row_with w (row_of (R k) (at ss pump_at)) ss

            here : Dec (p ≡ at ss pump_at) → Next k
            here (yes f) =
                more n ss (record { day = d; pump = sym f })
                (ap (λ (y : List ℕ). row_of y p) e
                ∙ subst (λ (s : ℕ). row_of (with_row (R k) (at ss pump_at) new) s ≡ row_with w (row_of (R k) s) ss) (sym f)
                (same_row (R k) (at ss pump_at) new (pump-fits k n ss d)))
            here (no f) =
                kept (ap (λ (y : List ℕ). row_of y p) e ∙ other_row (R k) (at ss pump_at) new (pump-fits k n ss d) p f)
                (λ m ts I. f (sym I.pump ∙ sym (ap (λ (us : List ℕ). at us pump_at) (same-sheet (day_of (record_at part k)) n m ss ts d I.day))))

    seen : (k : ℕ) → Seen w part k p (row_of (R k) p)
    unfolding over_first
    seen zero = subst (Seen w part 0 p) (sym (zero_row report_size p (omega arith))) (seen_none w part p)
    seen (suc k) = go (next k) (seen k)
      where
        go : Next k → Seen w part k p (row_of (R k) p) → Seen w part (suc k) p (row_of (R (suc k)) p)
        go (kept e never) Z = subst (Seen w part (suc k) p) (sym e) (seen_other w part k p (row_of (R k) p) Z never)
        go (more n ss I e) Z = subst (Seen w part (suc k) p) (sym e) (seen-sheet w part k p (row_of (R k) p) Z n ss I)

    -- a number of the row to which each sheet adds f of its symbols
    module _ (g : Row → ℕ) (f : List ℕ → ℕ) (start : g no_row ≡ 0) (further : (r : Row) (ss : List ℕ) → g (row_with w r ss) ≡ g r + f ss) where
      total : (k : ℕ) → g (row_of (R k) p) ≡ total_first (of_pump p f) part k
      unfolding over_first
      total zero = ap g (zero_row report_size p (omega arith)) ∙ start
      total (suc k) = go (next k) (total k)
        where
          nothing : ((n : ℕ) (ss : List ℕ) → IsOf part p k n ss → ⊥) → (d : Day) → day_of (record_at part k) ≡ d → of_sheet p f d ≡ 0
          nothing never (no_sheet n) e = refl
          nothing never (sheet n ss) e =
              ap (λ (y : Bool). cond y (f ss) 0) (ne_eqb (at ss pump_at) p (λ z. never n ss (record { day = e; pump = z })))

          go : Next k → g (row_of (R k) p) ≡ total_first (of_pump p f) part k
              → g (row_of (R (suc k)) p) ≡ total_first (of_pump p f) part k + of_pump p f (record_at part k)
          go (kept e never) c = ap g e ∙ omega (arith, c, nothing never (day_of (record_at part k)) refl)
          go (more n ss I e) c =
              let mine : of_pump p f (record_at part k) ≡ f ss =
              ap (of_sheet p f) I.day ∙ ap (λ (y : Bool). cond y (f ss) 0) (eq-eqb (at ss pump_at) p I.pump) in
              ap g e ∙ further (row_of (R k) p) ss ∙ omega (arith, c, mine)

  -- the refused records, the blank slots, and the sheets of all pumps, with the next slot
  record Numbers (k : ℕ) : Type 0 where
    refusals : at (R (suc k)) refused_at ≡ at (R k) refused_at + one_refused (record_at part k)
    blanks : at (R (suc k)) blank_at ≡ at (R k) blank_at + one_blank (record_at part k)
    sheets : sheets_below pumps (R (suc k)) + one_refused (record_at part k) + one_blank (record_at part k) ≡ sheets_below pumps (R k) + 1

  numbers : (k : ℕ) → Numbers k
  numbers k = go (slot k)
    where
      long : length (R k) ≡ report_size
      long = (countable k).size

      refusal : (b : Bool) (d : Day) → is_blank (record_at part k) ≡ b → day_of (record_at part k) ≡ d → one_refused (record_at part k) ≡ cond b 0 (one_unread d)
      refusal b d eb ed = ap₂ (λ (x : Bool) (y : Day). cond x 0 (one_unread y)) eb ed

      one : (b : Bool) → is_blank (record_at part k) ≡ b → one_blank (record_at part k) ≡ cond b 1 0
      one b eb = ap (λ (x : Bool). cond x 1 0) eb

      go : Slot k → Numbers k
      go (blank b e) =
          let r = refusal true _ b refl in
          let o = one true b in
          let v = at (R k) blank_at + 1 in
          record {
            refusals = ap (λ (X : List ℕ). at X refused_at) e ∙ omega (arith, r, get_or-set_other (R k) blank_at refused_at v 0 (λ z. omega arith));
            blanks = ap (λ (X : List ℕ). at X blank_at) e ∙ omega (arith, o, get_or-set_same (R k) blank_at v 0 (omega (arith, long)));
            sheets = omega (arith, r, o, ap (sheets_below pumps) e ∙ sheets-kept (R k) blank_at v pumps (omega arith) (omega arith));
          }
      go (none n b d e) =
          let r = refusal false (no_sheet n) b d in
          let o = one false b in
          let v = at (R k) refused_at + 1 in
          record {
            refusals = ap (λ (X : List ℕ). at X refused_at) e ∙ omega (arith, r, get_or-set_same (R k) refused_at v 0 (omega (arith, long)));
            blanks = ap (λ (X : List ℕ). at X blank_at) e ∙ omega (arith, o, get_or-set_other (R k) refused_at blank_at v 0 (λ z. omega arith));
            sheets = omega (arith, r, o, ap (sheets_below pumps) e ∙ sheets-kept (R k) refused_at v pumps (omega arith) (omega arith));
          }
      go (some n ss b d e) =
          let r = refusal false (sheet n ss) b d in
          let o = one false b in
          let q = at ss pump_at in
          let x = row_with w (row_of (R k) (at ss pump_at)) ss in
          let small = pump-row k n ss d in
          let fits = pump-fits k n ss d in
          record {
            refusals = ap (λ (X : List ℕ). at X refused_at) e ∙ omega (arith, r, last-kept (R k) q x fits refused_at (omega (arith, small)));
            blanks = ap (λ (X : List ℕ). at X blank_at) e ∙ omega (arith, o, last-kept (R k) q x fits blank_at (omega (arith, small)));
            sheets = omega (arith, r, o, ap (sheets_below pumps) e, sheets-behind (R k) q x fits pumps small, one-sheet w (row_of (R k) q) ss);
          }

  kinds : (k : ℕ) → (at (R k) refused_at ≡ total_first one_refused part k) × (at (R k) blank_at ≡ total_first one_blank part k)
  unfolding over_first
  kinds zero = (zero-at report_size refused_at (omega arith), zero-at report_size blank_at (omega arith))
  kinds (suc k) =
      let N = numbers k in
      let c = kinds k in
      (N.refusals ∙ omega (arith, c.0), N.blanks ∙ omega (arith, c.1))

  -- every slot is counted once
  counted : (k : ℕ) → sheets_below pumps (R k) + at (R k) refused_at + at (R k) blank_at ≡ k
  unfolding over_first
  counted zero =
      omega (
        arith,
        zero-sheets report_size pumps (omega arith),
        zero-at report_size refused_at (omega arith),
        zero-at report_size blank_at (omega arith),
      )
  counted (suc k) = let N = numbers k in omega (arith, counted k, N.refusals, N.blanks, N.sheets)

-- ---- the slots that are looked at

front-slot : (card : List ℕ) (i j n : ℕ) → j * record_size ≡ n → i < j → record_at (take n card) i ≡ record_at card i
front-slot card i j n e h = go (leb n (length card)) refl
  where
    go : (b : Bool) → leb n (length card) ≡ b → record_at (take n card) i ≡ record_at card i
    go true t =
        let l : length (take n card) ≡ n = length-take-le n card (leb-true n (length card) t) in
        sym (record-front (take n card) (drop n card) i j h (omega (arith, l, e)))
        ∙ ap (λ (xs : List ℕ). record_at xs i) (take-append-drop n card)
    go false t = ap (λ (xs : List ℕ). record_at xs i) (take_all n card (omega (arith, leb-false n (length card) t)))

module _ (card : List ℕ) where
  looked-slot : (i : ℕ) → i < looked card → record_at (listed_part card) i ≡ record_at card i
  looked-slot i h = front-slot card i most_records (most_records * record_size) refl (omega arith)

  looked-count : record_count (length (listed_part card)) ≡ looked card
  looked-count = simp length-take (omega arith)

  -- a total over them is one over the slots of the card
  looked-over : (f : List ℕ → ℕ) → total_first f (listed_part card) (record_count (length (listed_part card))) ≡ total_over f card
  looked-over f =
      ap (total_first f (listed_part card)) looked-count
      ∙ over-same erasure_bytes (summed f) 0 (listed_part card) card (looked card) (λ i h u. ap (summed f u) (looked-slot i h))

-- ---- the report of a card

module _ (w : Window) (wh : is_window w ≡ true) (card : List ℕ) where
  report-row : (p : ℕ) → p < pumps → row_of (report_of w card) p ≡ row_of (part_added w no_report (listed_part card)) p
  unfolding report_of
  report-row p h = row_kept (part_added w no_report (listed_part card)) more_at (cond (goes_on card) 1 0) p h (omega arith)

  pub all-looked : sheets_below pumps (report_of w card) + at (report_of w card) refused_at + at (report_of w card) blank_at ≡ looked card
  unfolding report_of
  all-looked =
      let X = part_added w no_report (listed_part card) in
      let v : ℕ = cond (goes_on card) 1 0 in
      omega (
        arith,
        counted w wh (listed_part card) (record_count (length (listed_part card))),
        looked-count card,
        sheets-kept X more_at v pumps (omega arith) (omega arith),
        get_or-set_other X more_at refused_at v 0 (λ z. omega arith),
        get_or-set_other X more_at blank_at v 0 (λ z. omega arith),
      )

  pub refused-total : at (report_of w card) refused_at ≡ total_over one_refused card
  unfolding report_of
  refused-total =
      get_or-set_other (part_added w no_report (listed_part card)) more_at refused_at (cond (goes_on card) 1 0) 0 (λ z. omega arith)
      ∙ (kinds w wh (listed_part card) (record_count (length (listed_part card)))).0
      ∙ looked-over card one_refused

  pub blank-total : at (report_of w card) blank_at ≡ total_over one_blank card
  unfolding report_of
  blank-total =
      get_or-set_other (part_added w no_report (listed_part card)) more_at blank_at (cond (goes_on card) 1 0) 0 (λ z. omega arith)
      ∙ (kinds w wh (listed_part card) (record_count (length (listed_part card)))).1
      ∙ looked-over card one_blank

  -- the last number
  said : at (report_of w card) more_at ≡ cond (goes_on card) 1 0
  unfolding report_of
  said =
      get_or-set_same (part_added w no_report (listed_part card)) more_at (cond (goes_on card) 1 0) 0
      (omega (arith, (countable w wh (listed_part card) (record_count (length (listed_part card)))).size))

  pub goes-on : most_records < record_count (length card) → at (report_of w card) more_at ≡ 1
  goes-on h = said ∙ ap (λ (b : Bool). cond b 1 0) (lt-ltb (most_records * record_size) (length card) (omega arith))

  pub goes-not-on : record_count (length card) ≤ most_records → at (report_of w card) more_at ≡ 0
  goes-not-on h = said ∙ ap (λ (b : Bool). cond b 1 0) (le-ltb (most_records * record_size) (length card) (omega arith))

  module _ (p : ℕ) (h : p < pumps) where
    row-total : (g : Row → ℕ) (f : List ℕ → ℕ) → g no_row ≡ 0 → ((r : Row) (ss : List ℕ) → g (row_with w r ss) ≡ g r + f ss)
        → g (row_of (report_of w card) p) ≡ total_over (of_pump p f) card
    row-total g f start further =
        ap g (report-row p h)
        ∙ total w wh (listed_part card) p h g f start further (record_count (length (listed_part card)))
        ∙ looked-over card (of_pump p f)

    pub row-totals : PumpTotals w card p (row_of (report_of w card) p)
    row-totals = record {
      sheets = row-total (λ r. r.sheets) (λ ss. 1) refl (one-sheet w);
      sum = row-total (λ r. r.sum) (λ ss. starts_sum (counts_in w ss)) refl (sum_more w);
      full = row-total (λ r. r.full) (λ ss. occurs full_count (counts_in w ss)) refl (full-more w);
    }

    whole : Seen w (listed_part card) (looked card) p (row_of (report_of w card) p)
    whole =
        subst (λ (n : ℕ). Seen w (listed_part card) n p (row_of (report_of w card) p)) (looked-count card)
        (subst (Seen w (listed_part card) (record_count (length (listed_part card))) p) (sym (report-row p h))
        (seen w wh (listed_part card) p h (record_count (length (listed_part card)))))

    pub row-mean : 0 < (row_of (report_of w card) p).sheets
        → ((row_of (report_of w card) p).quotient * (row_of (report_of w card) p).sheets + (row_of (report_of w card) p).remainder ≡ (row_of (report_of w card) p).sum)
        × ((row_of (report_of w card) p).remainder < (row_of (report_of w card) p).sheets)
    row-mean = whole.mean

    pub row-none : (row_of (report_of w card) p).sheets ≡ 0 → row_of (report_of w card) p ≡ no_row
    row-none = whole.none

    -- a count is that of a sheet which the row has seen
    behind : (i q n : ℕ) (d : Date) → (C : CountAt w card p i q n d)
        → (n ≤ highest_of (counts_in w C.symbols)) × Behind (highest_of (counts_in w C.symbols)) d (row_of (report_of w card) p).peak
    behind i q n d C =
        let ss = C.symbols in
        let day = ap day_of (looked-slot card i C.inside) ∙ C.day in
        let S = (is-sheet (record_at card i) C.changed ss C.day).symbols in
        let k = q - w.first in
        let inside : k < w.end - w.first = omega (arith, C.first, C.end) in
        let place : w.first + k ≡ q = omega (arith, C.first) in
        let this : get_or (counts_in w ss) k 0 ≡ n = counts-at w wh ss S k inside ∙ ap (at ss) place ∙ C.count in (
          omega (arith, this, highest-all (counts_in w ss) k (omega (arith, counts-long w wh ss S, inside))),
          subst (λ (x : Date). Behind (highest_of (counts_in w ss)) x (row_of (report_of w card) p).peak) C.date
              (whole.all i C.changed ss C.inside (record { day = day; pump = C.pump })).1,
        )

    pub row-highest : Highest w card p (row_of (report_of w card) p).sheets (row_of (report_of w card) p).peak
    row-highest = record {
      reached = λ some.
          (let s = whole.some some in
          let i = s.0 in
          let ss = s.1.1.0 in
          let f = s.1.1.1 in
          let day = sym (ap day_of (looked-slot card i f.0)) ∙ f.1.0.day in
          let S = (is-sheet (record_at card i) s.1.0 ss day).symbols in
          let top = highest-some (counts_in w ss) (omega (arith, counts-long w wh ss S, window-first w wh ss S)) in
          let inside : top.0 < w.end - w.first = omega (arith, top.1.0, counts-long w wh ss S) in (
            i,
            (
              w.first + top.0,
              record {
                changed = s.1.0;
                symbols = ss;
                inside = f.0;
                day = day;
                pump = f.1.0.pump;
                first = omega arith;
                end = omega (arith, inside);
                count = sym (counts-at w wh ss S top.0 inside) ∙ top.1.1 ∙ f.1.1.0;
                date = f.1.1.1;
              },
            ),
          ));
      exceeded = λ i q n d C. (let b = behind i q n d C in omega (arith, b.0, b.1.0));
      earliest = λ i q d C. (let b = behind i q _ d C in b.1.1 (omega (arith, b.0, b.1.0)));
    }
