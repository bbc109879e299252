-- Counts in a window, and the row of a pump with a further sheet. Assumes nothing.
use Rattle.std.proofs.Common.{Ok, Err}
use Rattle.field.proofs.Base.{◌≡◌, refl, sym, ap, ap₂, ◌∙◌, Bool, true, false, cond, not, ◌||◌, List, [], ◌∷◌, ℕ, zero, suc, ◌+◌, ◌-◌, ◌*◌, ◌≤◌, ◌<◌}
use Rattle.field.proofs.Base.{arith, eq-eqb, ne_eqb, lt-ltb, le-ltb, ltb-true, ltb-false, leb-true, not-true, not-false, eqb, leb, ltb, length}
use Rattle.field.proofs.Base.{get_or, drop, length-take, length-drop, get_or-take, get_or-drop}
use Prim.Native.Nat.{max}
use native.Mathlib.Nat.{le-max_left}
use Rattle.std.specs.Prelude.{sum}
use Rattle.std.proofs.Common.{zero-add}
use Rattle.std.specs.List.{fold, reduce}
use Rattle.std.specs.Option.{unwrap_or}
use Rattle.field.specs.Question.{ask}
use Rattle.field.specs.declared.Question.TheVariants.{Length, Window as InWindow}
use Rattle.field.proofs.Ask.{and-true-left, and-true-right}
use Rattle.code.specs.Word.{at}
use Rattle.code.specs.Demands.{occurs}
use Rattle.sheet.specs.Sheet.{quarters}
use Rattle.sheet.specs.Demands.{SheetSymbols}
use Rattle.report.specs.Window.{is_window, counts_in, starts_sum, full_count, highest_of, counts_of, earlier, below, leads, peak_of, date_of}
use Rattle.report.specs.Window.{row_after, row_with, report_size, window_asked}
use Rattle.report.specs.inner.Room.{day_most}
use Rattle.report.specs.declared.row.Window.{Window}
use Rattle.report.specs.declared.row.Date.{Date}
use Rattle.report.specs.declared.row.Peak.{Peak}
use Rattle.report.specs.declared.row.Row.{Row}
use Rattle.report.specs.declared.row.Counts.{Counts}
use Rattle.report.proofs.Order.{below-same, below_other}

-- ---- some counts by the library's words

starts-from : (n : ℕ) (xs : List ℕ) → fold ◌+◌ n xs ≡ n + starts_sum xs
starts-from n [] = omega arith
starts-from n (x ∷ xs) = omega (arith, starts-from (n + x) xs)

pub starts-summed : (xs : List ℕ) → sum xs ≡ starts_sum xs
starts-summed xs = starts-from 0 xs ∙ zero-add (starts_sum xs)

highest-from : (a : ℕ) (xs : List ℕ) → fold max a xs ≡ max a (highest_of xs)
highest-from a [] = omega arith
highest-from a (x ∷ xs) = omega (arith, highest-from (max a x) xs)

pub highest-picked : (xs : List ℕ) → unwrap_or (reduce max xs) 0 ≡ highest_of xs
highest-picked [] = refl
highest-picked (x ∷ xs) = highest-from x xs

-- ---- how large they are

one-most : (b : Bool) → cond b 1 0 ≤ 1
one-most true = omega arith
one-most false = omega arith

sum-most : (b : ℕ) (xs : List ℕ) → ((k : ℕ) → k < length xs → get_or xs k 0 ≤ b) → starts_sum xs ≤ length xs * b
sum-most b [] h = omega arith
sum-most b (x ∷ xs) h = omega (arith, h 0 (omega arith), sum-most b xs (λ k l. h (suc k) (omega arith)))

occurs-most : (s : ℕ) (xs : List ℕ) → occurs s xs ≤ length xs
unfolding occurs
occurs-most s [] = omega arith
occurs-most s (x ∷ xs) = omega (arith, one-most (eqb s x), occurs-most s xs)

-- no count is above the highest
pub highest-all : (xs : List ℕ) (k : ℕ) → k < length xs → get_or xs k 0 ≤ highest_of xs
highest-all [] k h = absurd (omega arith)
highest-all (x ∷ xs) zero h = le-max_left x (highest_of xs)
highest-all (x ∷ xs) (suc k) h = omega (arith, highest-all xs k (omega arith))

highest-most : (b : ℕ) (xs : List ℕ) → ((k : ℕ) → k < length xs → get_or xs k 0 ≤ b) → highest_of xs ≤ b
highest-most b [] h = omega arith
highest-most b (x ∷ xs) h = omega (arith, h 0 (omega arith), highest-most b xs (λ k l. h (suc k) (omega arith)))

-- and of some counts one is the highest
pub highest-some : (xs : List ℕ) → 0 < length xs → (k : ℕ) × ((k < length xs) × (get_or xs k 0 ≡ highest_of xs))
highest-some [] h = absurd (omega arith)
highest-some (x ∷ []) h = (0, (omega arith, omega arith))
highest-some (x ∷ y ∷ xs) h = go (ltb x (highest_of (y ∷ xs))) refl (highest-some (y ∷ xs) (omega arith))
  where
    go : (b : Bool) → ltb x (highest_of (y ∷ xs)) ≡ b → (k : ℕ) × ((k < length (y ∷ xs)) × (get_or (y ∷ xs) k 0 ≡ highest_of (y ∷ xs)))
        → (k : ℕ) × ((k < length (x ∷ y ∷ xs)) × (get_or (x ∷ y ∷ xs) k 0 ≡ highest_of (x ∷ y ∷ xs)))
    go true e r = (suc r.0, (omega (arith, r.1.0), omega (arith, r.1.1, ltb-true x (highest_of (y ∷ xs)) e)))
    go false e r = (0, (omega arith, omega (arith, ltb-false x (highest_of (y ∷ xs)) e)))

-- of a sheet in a window
module _ (w : Window) (h : is_window w ≡ true) (ss : List ℕ) (S : SheetSymbols ss) where
  pub window-first : w.first < w.end
  window-first = ltb-true w.first w.end (and-true-left (ltb w.first w.end) (leb w.end quarters) h)

  pub window-end : w.end ≤ quarters
  window-end = leb-true w.end quarters (and-true-right (ltb w.first w.end) (leb w.end quarters) h)

  pub counts-long : length (counts_in w ss) ≡ w.end - w.first
  counts-long = simp (length-take, length-drop) (omega (arith, window-first, window-end, S.size))

  pub counts-at : (k : ℕ) → k < w.end - w.first → get_or (counts_in w ss) k 0 ≡ at ss (w.first + k)
  counts-at k l = get_or-take (w.end - w.first) (drop w.first ss) k 0 l ∙ get_or-drop w.first ss k 0

  count_small : (k : ℕ) → k < length (counts_in w ss) → get_or (counts_in w ss) k 0 ≤ full_count
  count_small k l =
      let m : k < w.end - w.first = omega (arith, counts-long) in
      omega (arith, counts-at k m, S.symbols (w.first + k) (omega (arith, window-end)))

  pub counts-sum : starts_sum (counts_in w ss) ≤ day_most
  counts-sum = omega (arith, sum-most full_count (counts_in w ss) count_small, counts-long, window-end)

  pub counts-full : occurs full_count (counts_in w ss) ≤ day_most
  counts-full = omega (arith, occurs-most full_count (counts_in w ss), counts-long, window-end)

  pub counts-highest : highest_of (counts_in w ss) ≤ day_most
  counts-highest = omega (arith, highest-most full_count (counts_in w ss) count_small)

  pub counts-fit : (c : Counts) → c ≡ counts_of (counts_in w ss) → (c.sum ≤ day_most) × (c.full ≤ day_most)
  unfolding counts_of
  counts-fit c e = rw e (counts-sum, counts-full)

-- ---- the highest count with its date

module _ (sheets : ℕ) (old new : Peak) where
  pub peak-first : sheets ≡ 0 → new ≡ peak_of sheets old new
  unfolding leads
  peak-first e = simp (eq-eqb sheets 0 e)

  module _ (some : sheets ≡ 0 → ⊥) where
    led : (b : Bool) → leads sheets old new ≡ b → cond b new old ≡ peak_of sheets old new
    led b e = ap (λ (c : Bool). cond c new old) (sym e)

    by_count : leads sheets old new ≡ below old.count new.count (earlier new.date old.date)
    unfolding leads
    by_count = ap (λ (c : Bool). c || below old.count new.count (earlier new.date old.date)) (ne_eqb sheets 0 some)

    pub peak-higher : old.count < new.count → new ≡ peak_of sheets old new
    peak-higher h =
        led true (by_count ∙ below_other old.count new.count _ (λ e. omega arith) ∙ lt-ltb old.count new.count h)

    pub peak-lower : new.count < old.count → old ≡ peak_of sheets old new
    peak-lower h =
        led false (by_count ∙ below_other old.count new.count _ (λ e. omega arith) ∙ le-ltb old.count new.count (omega arith))

    module _ (e : old.count ≡ new.count) (b : Bool) (eb : b ≡ earlier new.date old.date) where
      by-date : leads sheets old new ≡ b
      by-date = by_count ∙ below-same old.count new.count _ e ∙ sym eb

      pub peak-earlier : b ≡ true → new ≡ peak_of sheets old new
      peak-earlier t = led true (by-date ∙ t)

      pub peak-later : b ≡ false → old ≡ peak_of sheets old new
      peak-later t = led false (by-date ∙ t)

-- ---- rows by their parts

pub row-with : (w : Window) (r : Row) (ss : List ℕ) (c : Counts) (d : Date) (x : Row) → c ≡ counts_of (counts_in w ss) → d ≡ date_of ss
    → x ≡ row_after r c d → x ≡ row_with w r ss
unfolding row_with
row-with w r ss c d x ec ed ex = ex ∙ ap₂ (row_after r) ec ed

-- ---- the questions of the call

module _ (w : Window) (n : ℕ) (b : Bool) (eb : b ≡ is_window w) where
  pub window-none : not b ≡ true → Err InWindow ≡ window_asked w n
  unfolding window_asked
  window-none t = ap (λ (x : Bool). ask x InWindow (ask (eqb n report_size) Length (Ok tt))) (sym (not-true b t) ∙ eb)

  module _ (t : not b ≡ false) where
    second : (x : Bool) → eqb n report_size ≡ x → ask x Length (Ok tt) ≡ window_asked w n
    unfolding window_asked
    second x e = ap₂ (λ (y z : Bool). ask y InWindow (ask z Length (Ok tt))) (sym (not-false b t) ∙ eb) (sym e)

    pub window-length : (n ≡ report_size → ⊥) → Err Length ≡ window_asked w n
    window-length h = second false (ne_eqb n report_size h)

    pub window-pass : n ≡ report_size → (Ok tt) ≡ window_asked w n
    window-pass h = second true (eq-eqb n report_size h)
