-- The report as a list of numbers: rows, bounds, slot by slot. Assumes nothing.
use Rattle.std.proofs.Common.{Ok}
use Rattle.field.specs.Question.{Verdict}
use Rattle.field.proofs.Base.{◌≡◌, refl, sym, ap, ap₂, ◌∙◌, subst, ◌≢◌, Bool, true, false, cond, List, [], ◌∷◌, ◌++◌, ℕ, zero, suc, ◌+◌, ◌-◌, ◌*◌}
use Rattle.field.proofs.Base.{◌^◌, ◌≤◌, ◌<◌, arith, ltb-true, ltb-false, eqb-true, eqb, ltb, length, get_or, set, take, drop, replicate}
use Rattle.field.proofs.Base.{length-append, length-take, length-drop, length-set, length-replicate, drop_at, take_all, get_or-take, get_or-drop}
use Rattle.field.proofs.Base.{get_or-set_other, ext_get_or, length-take-le, min, le_refl}
use Rattle.std.proofs.Math.Decide.{dec_le}
use native.Mathlib.Nat.{div-le_self, mod-le, min-eq_left, min-eq_right}
use lib.ListN.{get_or-append}
use lib.Seq.{get_or-append-add}
use Rattle.field.specs.Question.{ask}
use Rattle.field.specs.declared.Question.TheVariants.{Length, Window as InWindow}
use Rattle.field.proofs.Ask.{ask-yes, ask-next}
use Rattle.code.specs.Word.{at}
use Rattle.card.specs.Record.{erasure_bytes, record_size}
use Rattle.card.specs.Slots.{record_count, record_at, is_blank, over_first}
use Rattle.card.specs.Listing.{most_records, listed_part}
use Rattle.sheet.specs.Sheet.{year_at, month_at, day_at, pump_at, sheet_size}
use Rattle.sheet.specs.Demands.{SheetSymbols}
use Rattle.report.specs.Day.{Day, sheet, no_sheet, day_of}
use Rattle.report.specs.Window.{is_window, counts_in, highest_of, counts_of, date_of, leads, row_with}
use Rattle.report.specs.Window.{pumps, row_size, refused_at, blank_at, more_at, report_size, row_from, row_numbers, row_of, with_row, one_more}
use Rattle.report.specs.Window.{no_report}
use Rattle.report.specs.Window.{day_added, slot_added, part_added, finished, goes_on, report_of, window_asked}
use Rattle.report.specs.inner.Room.{AllWithin, Countable, Most, day_most}
use Rattle.report.specs.declared.row.Window.{Window}
use Rattle.report.specs.declared.row.Peak.{Peak}
use Rattle.report.specs.declared.row.Row.{Row}
use Rattle.report.proofs.Days.{is-sheet}
use Rattle.report.proofs.Counting.{counts-sum, counts-full, counts-highest}

-- ---- rows

module _ (R : List ℕ) (p : ℕ) where
  back : p * row_size + row_size - p * row_size ≡ row_size
  back = omega arith

  -- a row is read from the part that holds it, and written there
  pub row_read : (r : Row) → r ≡ row_from (take (p * row_size + row_size - p * row_size) (drop (p * row_size) R)) → r ≡ row_of R p
  row_read r e = e ∙ ap (λ (n : ℕ). row_from (take n (drop (p * row_size) R))) back

  pub row_written : (x y : Row) (new : List ℕ) → new ≡ row_numbers y → y ≡ x
      → take (p * row_size) R ++ (new ++ drop (p * row_size + row_size - p * row_size) (drop (p * row_size) R)) ≡ with_row R p x
  unfolding with_row
  row_written x y new en ey =
      ap₂ (λ (xs : List ℕ) (n : ℕ). take (p * row_size) R ++ (xs ++ drop n (drop (p * row_size) R))) (en ∙ ap row_numbers ey) back

-- the report with a row put in
module _ (R : List ℕ) (p : ℕ) (x : Row) (fits : p * row_size + row_size ≤ length R) where
  front : length (take (p * row_size) R) ≡ p * row_size
  front = length-take-le (p * row_size) R (omega arith)

  pub row-long : length (with_row R p x) ≡ length R
  unfolding with_row
  row-long = simp (length-append, length-take, length-drop) (omega arith)

  row_before : (i : ℕ) → i < p * row_size → at (with_row R p x) i ≡ at R i
  unfolding with_row
  row_before i h = get_or-append (take (p * row_size) R) _ 0 i (omega (arith, front)) ∙ get_or-take (p * row_size) R i 0 h

  row-behind : (i : ℕ) → p * row_size + row_size ≤ i → at (with_row R p x) i ≡ at R i
  unfolding with_row
  row-behind i h =
      let j = i - (p * row_size + row_size) in
      let rest = drop row_size (drop (p * row_size) R) in
      let e : i ≡ length (take (p * row_size) R) + (row_size + j) = omega (arith, front) in
      let f : p * row_size + (row_size + j) ≡ i = omega arith in
      ap (λ (n : ℕ). get_or (take (p * row_size) R ++ (row_numbers x ++ rest)) n 0) e
      ∙ get_or-append-add (take (p * row_size) R) (row_numbers x ++ rest) (row_size + j) 0
      ∙ get_or-append-add (row_numbers x) rest j 0
      ∙ get_or-drop row_size (drop (p * row_size) R) j 0
      ∙ get_or-drop (p * row_size) R (row_size + j) 0
      ∙ ap (λ (n : ℕ). get_or R n 0) f

  pub same_row : row_of (with_row R p x) p ≡ x
  unfolding with_row
  same_row =
      ap (λ (xs : List ℕ). row_from (take row_size xs)) (drop_at (take (p * row_size) R) (row_numbers x ++ drop row_size (drop (p * row_size) R)) (p * row_size) front)

  pub other_row : (s : ℕ) → s ≢ p → row_of (with_row R p x) s ≡ row_of R s
  other_row s n = ap row_from (ext_get_or 0 (part (with_row R p x)) (part R) long same)
    where
      part : List ℕ → List ℕ
      part = λ xs. take row_size (drop (s * row_size) xs)

      long : length (part (with_row R p x)) ≡ length (part R)
      long = simp (length-take, length-drop, row-long)

      outside : (i : ℕ) → i < row_size → (b : Bool) → ltb s p ≡ b → at (with_row R p x) (s * row_size + i) ≡ at R (s * row_size + i)
      outside i h true e = row_before (s * row_size + i) (omega (arith, ltb-true s p e))
      outside i h false e = row-behind (s * row_size + i) (omega (arith, n, ltb-false s p e))

      same : (i : ℕ) → i < length (part (with_row R p x)) → get_or (part (with_row R p x)) i 0 ≡ get_or (part R) i 0
      same i h =
          let l : i < row_size = omega (arith, length-take row_size (drop (s * row_size) (with_row R p x))) in
          get_or-take row_size (drop (s * row_size) (with_row R p x)) i 0 l
          ∙ get_or-drop (s * row_size) (with_row R p x) i 0
          ∙ outside i l (ltb s p) refl
          ∙ sym (get_or-take row_size (drop (s * row_size) R) i 0 l ∙ get_or-drop (s * row_size) R i 0)

  -- the numbers behind the rows
  pub last-kept : (i : ℕ) → p * row_size + row_size ≤ i → at (with_row R p x) i ≡ at R i
  last-kept = row-behind

-- a number behind the rows leaves the rows
pub row_kept : (R : List ℕ) (i v p : ℕ) → p < pumps → refused_at ≤ i → row_of (set R i v) p ≡ row_of R p
row_kept R i v p h l =
    ap row_from (ext_get_or 0 (take row_size (drop (p * row_size) (set R i v))) (take row_size (drop (p * row_size) R)) (simp (length-take, length-drop, length-set)) same)
  where
    same : (k : ℕ) → k < length (take row_size (drop (p * row_size) (set R i v)))
        → get_or (take row_size (drop (p * row_size) (set R i v))) k 0 ≡ get_or (take row_size (drop (p * row_size) R)) k 0
    same k b =
        let m : k < row_size = omega (arith, length-take row_size (drop (p * row_size) (set R i v))) in
        get_or-take row_size (drop (p * row_size) (set R i v)) k 0 m
        ∙ get_or-drop (p * row_size) (set R i v) k 0
        ∙ get_or-set_other R i (p * row_size + k) v 0 (λ e. omega arith)
        ∙ sym (get_or-take row_size (drop (p * row_size) R) k 0 m ∙ get_or-drop (p * row_size) R k 0)

-- ---- bounds

module _ (b : ℕ) where
  within-append : (xs ys : List ℕ) → AllWithin b xs → AllWithin b ys → AllWithin b (xs ++ ys)
  within-append [] ys p q = q
  within-append (x ∷ xs) ys p q = (p.0, within-append xs ys p.1 q)

  within-take : (n : ℕ) (xs : List ℕ) → AllWithin b xs → AllWithin b (take n xs)
  within-take zero xs p = tt
  within-take (suc n) [] p = tt
  within-take (suc n) (x ∷ xs) p = (p.0, within-take n xs p.1)

  within-drop : (n : ℕ) (xs : List ℕ) → AllWithin b xs → AllWithin b (drop n xs)
  within-drop zero xs p = p
  within-drop (suc n) [] p = tt
  within-drop (suc n) (x ∷ xs) p = within-drop n xs p.1

  pub within-at : (xs : List ℕ) (i : ℕ) → AllWithin b xs → at xs i ≤ b
  within-at [] i p = omega arith
  within-at (x ∷ xs) zero p = p.0
  within-at (x ∷ xs) (suc i) p = within-at xs i p.1

  within-set : (xs : List ℕ) (i x : ℕ) → AllWithin b xs → x ≤ b → AllWithin b (set xs i x)
  within-set [] i x p h = tt
  within-set (y ∷ xs) zero x p h = (h, p.1)
  within-set (y ∷ xs) (suc i) x p h = (p.0, within-set xs i x p.1 h)

  within-zeros : (n : ℕ) → AllWithin b (replicate n 0)
  within-zeros zero = tt
  within-zeros (suc n) = (omega arith, within-zeros n)

  within_more : (c : ℕ) → b ≤ c → (xs : List ℕ) → AllWithin b xs → AllWithin c xs
  within_more c h [] p = tt
  within_more c h (x ∷ xs) p = (omega (arith, p.0), within_more c h xs p.1)

-- a report of zeros
pub zeros-countable : (b n : ℕ) → n ≡ report_size → Countable b (replicate n 0)
zeros-countable b n e = record { size = length-replicate n 0 ∙ e; within = within-zeros b n }

-- the row of a pump
module _ (b : ℕ) (R : List ℕ) (C : Countable b R) (p : ℕ) (h : p < pumps) where
  pub row_fits : p * row_size + row_size ≤ length R
  row_fits = omega (arith, C.size)

  nine : AllWithin b (take row_size (drop (p * row_size) R))
  nine = within-take b row_size (drop (p * row_size) R) (within-drop b (p * row_size) R C.within)

  number-most : (i : ℕ) → at (take row_size (drop (p * row_size) R)) i ≤ b
  number-most i = within-at b (take row_size (drop (p * row_size) R)) i nine

  pub row-most : Most b (row_of R p)
  row-most = record { sheets = number-most 0; sum = number-most 1; full = number-most 2 }

  pub year-most : (row_of R p).peak.date.year ≤ b
  year-most = number-most 4

  -- with a further sheet
  module _ (w : Window) (wh : is_window w ≡ true) (ss : List ℕ) (S : SheetSymbols ss) where
    symbol-small : (i : ℕ) → i < sheet_size → at ss i ≤ b + day_most
    symbol-small i l = omega (arith, S.symbols i l)

    peak-within : (old : Peak) → old.count ≤ b → old.date.year ≤ b → old.date.month ≤ b → old.date.day ≤ b
        → (new : Peak) → new.count ≤ b + day_most → new.date ≡ date_of ss → (l : Bool)
        → ((cond l new old).count ≤ b + day_most) × (((cond l new old).date.year ≤ b + day_most)
        × (((cond l new old).date.month ≤ b + day_most) × ((cond l new old).date.day ≤ b + day_most)))
    peak-within old k y m d new n e true = (
      n,
      rw e (symbol-small year_at (omega arith), (symbol-small month_at (omega arith), symbol-small day_at (omega arith))),
    )
    peak-within old k y m d new n e false = (omega (arith, k), (omega (arith, y), (omega (arith, m), omega (arith, d))))

    numbers-within : AllWithin (b + day_most) (row_numbers (row_with w (row_of R p) ss))
    unfolding row_with counts_of
    numbers-within =
        let r = row_of R p in
        let s = r.sum + (counts_of (counts_in w ss)).sum in
        let most : s ≤ b + day_most = omega (arith, row-most.sum, counts-sum w wh ss S) in
        let P = peak-within r.peak (number-most 3) (number-most 4) (number-most 5) (number-most 6)
        (record { count = highest_of (counts_in w ss); date = date_of ss }) (omega (arith, counts-highest w wh ss S)) refl
        (leads r.sheets r.peak (record { count = highest_of (counts_in w ss); date = date_of ss })) in (
          omega (arith, row-most.sheets),
          (
            most,
            (
              omega (arith, row-most.full, counts-full w wh ss S),
              (
                P.0,
                (
                  P.1.0,
                  (
                    P.1.1.0,
                    (
                      P.1.1.1,
                      (omega (arith, most, div-le_self s (r.sheets + 1)), (omega (arith, most, mod-le s (r.sheets + 1)), tt)),
                    ),
                  ),
                ),
              ),
            ),
          ),
        )

    pub sheet-countable : Countable (b + day_most) (with_row R p (row_with w (row_of R p) ss))
    unfolding with_row
    sheet-countable = record {
      size = row-long R p (row_with w (row_of R p) ss) row_fits ∙ C.size;
      within =
          let up : AllWithin (b + day_most) R = within_more b (b + day_most) (omega arith) R C.within in
          within-append (b + day_most) (take (p * row_size) R) _ (within-take (b + day_most) (p * row_size) R up)
          (within-append (b + day_most) (row_numbers (row_with w (row_of R p) ss)) (drop row_size (drop (p * row_size) R)) numbers-within
          (within-drop (b + day_most) row_size (drop (p * row_size) R) (within-drop (b + day_most) (p * row_size) R up)));
    }

-- ---- slot by slot

-- the pump of a sheet
pub pump-small : (ss : List ℕ) → SheetSymbols ss → at ss pump_at < pumps
pump-small ss S = S.symbols pump_at (omega arith)

-- with the first k slots of a part of a card
abbrev pub slots_added : Window → List ℕ → List ℕ → ℕ → List ℕ
slots_added w R part k = over_first erasure_bytes (slot_added w) R part k

module _ (w : Window) (wh : is_window w ≡ true) where
  one-countable : (b : ℕ) (R : List ℕ) → Countable b R → (i : ℕ) → Countable (b + day_most) (one_more i R)
  one-countable b R C i = record {
    size = length-set R i (at R i + 1) ∙ C.size;
    within = within-set (b + day_most) R i (at R i + 1) (within_more b (b + day_most) (omega arith) R C.within)
        (omega (arith, within-at b R i C.within));
  }

  pub slot-countable : (b : ℕ) (R : List ℕ) → Countable b R → (slot : List ℕ) → Countable (b + day_most) (slot_added w R slot)
  unfolding slot_added
  slot-countable b R C slot = go (is_blank slot) (day_of slot) refl
    where
      go : (a : Bool) (d : Day) → day_of slot ≡ d → Countable (b + day_most) (cond a (one_more blank_at R) (day_added w R d))
      go true d e = one-countable b R C blank_at
      go false (no_sheet n) e = one-countable b R C refused_at
      go false (sheet k ss) e =
          let S = (is-sheet slot k ss e).symbols in
          sheet-countable b R C (at ss pump_at) (pump-small ss S) w wh ss S

  pub slots-countable : (b : ℕ) (R : List ℕ) → Countable b R → (part : List ℕ) (k : ℕ) → Countable (b + k * day_most) (slots_added w R part k)
  unfolding over_first
  slots-countable b R C part zero = subst (λ (n : ℕ). Countable n R) (sym none) C
    where
      none : b + zero * day_most ≡ b
      none = omega arith
  slots-countable b R C part (suc k) =
      subst (λ (n : ℕ). Countable n (slot_added w (slots_added w R part k) (record_at part k))) more
      (slot-countable (b + k * day_most) (slots_added w R part k) (slots-countable b R C part k) (record_at part k))
    where
      more : b + k * day_most + day_most ≡ b + suc k * day_most
      more = omega arith

pub countable-more : (b c : ℕ) → b ≤ c → (R : List ℕ) → Countable b R → Countable c R
countable-more b c h R C = record { size = C.size; within = within_more b c h R C.within }

module _ (w : Window) (R slot : List ℕ) (b : Bool) (e : b ≡ is_blank slot) where
  pub slot-blank : b ≡ true → (new : List ℕ) → new ≡ one_more blank_at R → new ≡ slot_added w R slot
  unfolding slot_added
  slot-blank t new f = f ∙ ap (λ (c : Bool). cond c (one_more blank_at R) (day_added w R (day_of slot))) (sym t ∙ e)

  pub slot-record : b ≡ false → (new : List ℕ) → new ≡ day_added w R (day_of slot) → new ≡ slot_added w R slot
  unfolding slot_added
  slot-record t new f = f ∙ ap (λ (c : Bool). cond c (one_more blank_at R) (day_added w R (day_of slot))) (sym t ∙ e)

-- the numbers of the report of a card are small
pub report-countable : (w : Window) → is_window w ≡ true → (card : List ℕ) → Countable (2 ^ 63) (report_of w card)
unfolding report_of
report-countable w wh card =
    let part = listed_part card in
    let k = record_count (length part) in
    let most : length part ≤ most_records * record_size = simp length-take (omega arith) in
    let R = part_added w no_report part in
    let C = countable-more (0 + k * day_most) (2 ^ 63) (omega arith) R
    (slots-countable w wh 0 no_report (zeros-countable 0 report_size refl) part k) in
    record {
      size = length-set R more_at (cond (goes_on card) 1 0) ∙ C.size;
      within = within-set (2 ^ 63) R more_at (cond (goes_on card) 1 0) C.within (one (goes_on card));
    }
  where
    one : (b : Bool) → cond b 1 0 ≤ 2 ^ 63
    one true = omega arith
    one false = omega arith

-- ---- the report of a card; z is the report of nothing, a what the slots have made of it

module _ (w : Window) (card : List ℕ) (n : ℕ) (en : n ≡ report_size) (z : List ℕ) (ez : z ≡ replicate n 0) where
  pub zeros-ready : (b : ℕ) → Countable b z
  zeros-ready b = rw ez (zeros-countable b n en)

  none : z ≡ no_report
  none = ez ∙ ap (λ (k : ℕ). replicate k 0) en

  -- k is the number of bytes that are looked at
  module _ (k : ℕ) (ek : k ≡ min (length card) (most_records * record_size)) where
    looked : take k card ≡ listed_part card
    looked = ap (λ (m : ℕ). take m card) ek ∙ go (dec_le (length card) (most_records * record_size))
      where
        go : Dec (length card ≤ most_records * record_size) → take (min (length card) (most_records * record_size)) card ≡ listed_part card
        go (yes h) =
            ap (λ (m : ℕ). take m card) (min-eq_left h) ∙ take_all (length card) card (le_refl (length card))
            ∙ sym (take_all (most_records * record_size) card h)
        go (no h) = ap (λ (m : ℕ). take m card) (min-eq_right (omega arith))

    pub front-most : length (take k card) ≤ most_records * record_size
    front-most = rw looked (simp length-take (omega arith))

    pub report-made : (a new : List ℕ) → a ≡ part_added w z (take k card) → new ≡ finished a (goes_on card) → new ≡ report_of w card
    unfolding report_of
    report-made a new ea e = e ∙ ap (λ (u : List ℕ). finished u (goes_on card)) (ea ∙ ap₂ (part_added w) none looked)

-- v is what the questions said
module _ (w : Window) (old : List ℕ) (v : Verdict) (e : v ≡ window_asked w (length old)) where
  module _ (p : v ≡ (Ok tt)) where
    asked : window_asked w (length old) ≡ (Ok tt)
    asked = sym e ∙ p

    pub asked-window : is_window w ≡ true
    unfolding window_asked
    asked-window = ask-yes (is_window w) InWindow (ask (eqb (length old) report_size) Length (Ok tt)) asked

    pub asked-size : length old ≡ report_size
    unfolding window_asked
    asked-size =
        eqb-true (length old) report_size
        (ask-yes (eqb (length old) report_size) Length (Ok tt) (ask-next (is_window w) InWindow (ask (eqb (length old) report_size) Length (Ok tt)) asked))
