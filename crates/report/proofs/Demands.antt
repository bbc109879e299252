-- The demands of specs/Demands.antt, each under its name in small letters. Assumes nothing.
use Rattle.std.proofs.Common.{Ok}
use Rattle.field.specs.Question.{Verdict}
use Rattle.field.proofs.Base.{◌≡◌, refl, sym, ap, ap₂, ◌∙◌, Bool, true, false, cond, ◌&&◌, List, [], ◌∷◌, ℕ, ◌+◌, ◌-◌, ◌*◌, arith, ltb, length, take}
use Rattle.field.proofs.Base.{drop, get_or-take, get_or-drop}
use denote.Ref.{Bor}
use Rattle.field.specs.Question.{Outcome, accepted, ask, after}
use Rattle.field.specs.declared.Question.TheVariants.{RecordNumber, SameDay}
use Rattle.field.proofs.Ask.{ask-yes}
use Rattle.code.specs.Word.{at}
use Rattle.code.specs.Demands.{occurs}
use Rattle.card.specs.Record.{record_size}
use Rattle.card.specs.Card.{LiesAt}
use Rattle.card.proofs.Folding.{in_parts}
use Rattle.sheet.specs.Sheet.{quarters}
use Rattle.sheet.proofs.Asking.{after-accepted}
use Rattle.report.specs.Day.{has_record, slot_of, Day, sheet, no_sheet, day_of, day_symbols}
use Rattle.report.specs.Compare.{signs_of, sheet_signs, same_day, chosen_of, compared_of, shown_signs, shown_total}
use Rattle.report.specs.Compare.{symbols_at, numbers_asked, compare_of, compare_signs, compare_total, part_of}
use Rattle.report.specs.Window.{slot_added}
use Rattle.report.specs.Demands.{Agreed, CompareAccepts, SignsStand, TotalsCount, TotalsMake, StandsAt, PartStands, RefusedNothing}
use Rattle.report.specs.Demands.{AllCounted, TotalsStand, KindsCounted, MoreSaid, MeanStands, HighestStands, Ordered, PartsAdded, QuartersRead}
use Rattle.report.specs.Demands.{CompareRefuses, EarlierMeans, DaysInOrder}
use Rattle.report.proofs.Refusing as Refusing
use Rattle.report.proofs.Order as Order
use Rattle.report.proofs.Days.{slot-some, is-sheet}
use Rattle.report.proofs.Comparing.{sheet-signs-long, sheet-signs-at, compared-number, compared-other}
use Rattle.report.proofs.Order.{earlier-irreflexive, earlier-transitive, earlier-total}
use Rattle.report.proofs.Quarters.{stands-for, quarter-texts}
use Rattle.report.proofs.Totals.{all-looked, row-totals, refused-total, blank-total, goes-on, goes-not-on, row-mean, row-none, row-highest}

-- ---- two day sheets side by side

module _ (c : List ℕ) (i : ℕ) (d : List ℕ) (j : ℕ) where
  agreed : (w : ℕ) → compare_of c i d j ≡ accepted w → Agreed c i d j w
  unfolding compare_of
  agreed w e = days (day_of (slot_of c i)) (day_of (slot_of d j)) refl refl (sym (ap (λ (v : Verdict). after v both) passed) ∙ e)
    where
      both : Outcome
      both = compared_of (day_of (slot_of c i)) (day_of (slot_of d j))

      passed : numbers_asked c i d j ≡ (Ok tt)
      passed = after-accepted (numbers_asked c i d j) both w (sym e)

      days : (x y : Day) → day_of (slot_of c i) ≡ x → day_of (slot_of d j) ≡ y → compared_of x y ≡ accepted w → Agreed c i d j w
      days (no_sheet n) y ex ey f = let z : ◌≡◌ {A = ℕ} 0 1 = cc in absurd (omega arith)
      days (sheet k ss) (no_sheet n) ex ey f = let z : ◌≡◌ {A = ℕ} 0 1 = cc in absurd (omega arith)
      days (sheet k ss) (sheet l ts) ex ey f =
          let p = after-accepted (ask (same_day ss ts) SameDay (Ok tt)) (accepted (chosen_of k l)) w (sym f) in
          let g : accepted (chosen_of k l) ≡ accepted w = sym (ap (λ (v : Verdict). after v (accepted (chosen_of k l))) p) ∙ f in
          record {
            k = k;
            l = l;
            ss = ss;
            ts = ts;
            number = compared-number c i d j w e;
            other-number = compared-other c i d j w e;
            controller = ex;
            cupboard = ey;
            same = ask-yes (same_day ss ts) SameDay (Ok tt) p;
            chosen = cc;
          }

  agreed-accepts : (w : ℕ) → Agreed c i d j w → compare_of c i d j ≡ accepted w
  unfolding compare_of numbers_asked
  agreed-accepts w G =
      ap₂ (λ (a b : Bool). after (ask (a && b) RecordNumber (Ok tt)) (compared_of (day_of (slot_of c i)) (day_of (slot_of d j)))) G.number G.other-number
      ∙ ap₂ compared_of G.controller G.cupboard
      ∙ ap (λ (b : Bool). after (ask b SameDay (Ok tt)) (accepted (chosen_of G.k G.l))) G.same
      ∙ ap accepted (sym G.chosen)

pub compare-accepts : CompareAccepts
compare-accepts c i d j w = (agreed c i d j w, agreed-accepts c i d j w)

-- the symbols of the two sheets
module _ (c : List ℕ) (i : ℕ) (d : List ℕ) (j w : ℕ) (e : compare_of c i d j ≡ accepted w) where
  G : Agreed c i d j w
  G = agreed c i d j w e

  first-long : length (symbols_at c i) ≡ 100
  first-long = ap (λ (x : Day). length (day_symbols x)) G.controller ∙ (is-sheet (slot_of c i) _ _ G.controller).symbols.size

  second-long : length (symbols_at d j) ≡ 100
  second-long = ap (λ (x : Day). length (day_symbols x)) G.cupboard ∙ (is-sheet (slot_of d j) _ _ G.cupboard).symbols.size

  shown : compare_signs c i d j ≡ sheet_signs (symbols_at c i) (symbols_at d j)
  shown = ap (λ (o : Outcome). shown_signs o (symbols_at c i) (symbols_at d j)) e

  counted : (s : ℕ) → compare_total c i d j s ≡ occurs s (sheet_signs (symbols_at c i) (symbols_at d j))
  counted s = ap (λ (o : Outcome). shown_total o (symbols_at c i) (symbols_at d j) s) e

pub compare-refuses : CompareRefuses
compare-refuses = Refusing.compare-refuses

pub signs-stand : SignsStand
signs-stand c i d j w e p h =
    ap (λ (xs : List ℕ). at xs p) (shown c i d j w e)
    ∙ sheet-signs-at (symbols_at c i) (symbols_at d j) (first-long c i d j w e) (second-long c i d j w e) p h

pub totals-count : TotalsCount
totals-count c i d j w e s = counted c i d j w e s ∙ sym (ap (occurs s) (shown c i d j w e))

-- how often 0, 1 and 2 stand in a list
three_of : List ℕ → ℕ
three_of xs = occurs 0 xs + occurs 1 xs + occurs 2 xs

-- every sign is one of them
sign-counted : (a b : Bool) (xs : List ℕ) → three_of (cond a 1 (cond b 2 0) ∷ xs) ≡ 1 + three_of xs
unfolding occurs three_of
sign-counted true b xs = omega arith
sign-counted false true xs = omega arith
sign-counted false false xs = omega arith

signs-counted : (xs ys : List ℕ) → three_of (signs_of xs ys) ≡ length (signs_of xs ys)
unfolding occurs three_of
signs-counted [] ys = refl
signs-counted (x ∷ xs) [] = refl
signs-counted (x ∷ xs) (y ∷ ys) = omega (arith, sign-counted (ltb y x) (ltb x y) (signs_of xs ys), signs-counted xs ys)

pub totals-make : TotalsMake
unfolding three_of
totals-make c i d j w e =
    let ss = symbols_at c i in
    let ts = symbols_at d j in
    omega (
      arith,
      counted c i d j w e 0,
      counted c i d j w e 1,
      counted c i d j w e 2,
      signs-counted (take quarters ss) (take quarters ts),
      sheet-signs-long ss ts (first-long c i d j w e) (second-long c i d j w e),
    )

-- the slot of a day sheet, where it lies
slot-stands : (card : Bor (List ℕ)) (n k : ℕ) (ss : List ℕ) → has_record card.now n ≡ true → day_of (slot_of card.now n) ≡ sheet k ss
    → (part : Bor (List ℕ)) → part.now ≡ slot_of card.now n → LiesAt card ((n - 1) * record_size) part → StandsAt card n part
slot-stands card n k ss h e part b l = record {
  number = h;
  size = ap length b ∙ (is-sheet (slot_of card.now n) k ss e).size;
  bytes = λ p less.
      ap (λ (xs : List ℕ). at xs p) (b ∙ sym (slot-some card.now n true (sym h) refl))
      ∙ get_or-take record_size (drop ((n - 1) * record_size) card.now) p 0 less
      ∙ get_or-drop ((n - 1) * record_size) card.now p 0;
  lies = l;
}

pub part-stands : PartStands
part-stands x i y j part H = (
  λ e.
      let G = agreed x.now i y.now j 1 e in
      slot-stands x i G.k G.ss G.number G.controller part (H.bytes ∙ ap chosen e) (H.controller e),
  λ e.
      let G = agreed x.now i y.now j 2 e in
      slot-stands y j G.l G.ts G.other-number G.cupboard part (H.bytes ∙ ap chosen e) (H.cupboard e),
)
  where
    chosen : Outcome → List ℕ
    chosen = λ o. part_of o (slot_of x.now i) (slot_of y.now j)

pub refused-nothing : RefusedNothing
refused-nothing c i d j n e = (
  ap (λ (o : Outcome). shown_signs o (symbols_at c i) (symbols_at d j)) e,
  λ s. ap (λ (o : Outcome). shown_total o (symbols_at c i) (symbols_at d j) s) e,
  ap (λ (o : Outcome). part_of o (slot_of c i) (slot_of d j)) e,
)

-- ---- starts in a window

pub all-counted : AllCounted
all-counted w card h = (all-looked w h card, omega arith)

pub totals-stand : TotalsStand
totals-stand w card p h l = row-totals w h card p l

pub kinds-counted : KindsCounted
kinds-counted w card h = (refused-total w h card, blank-total w h card)

pub more-said : MoreSaid
more-said w card h = (goes-on w h card, goes-not-on w h card)

pub mean-stands : MeanStands
mean-stands w card p h l = (row-mean w h card p l, row-none w h card p l)

pub highest-stands : HighestStands
highest-stands w card p h l = row-highest w h card p l

pub ordered : Ordered
ordered = record { irreflexive = earlier-irreflexive; transitive = earlier-transitive; total = earlier-total }

pub earlier-means : EarlierMeans
earlier-means = Order.earlier-means

pub days-in-order : DaysInOrder
days-in-order = Order.days-in-order

pub parts_added : PartsAdded
parts_added w report a b j whole = in_parts (slot_added w) a b j whole report

-- ---- quarter hours

pub quarters-read : QuartersRead
quarters-read text n = (stands-for text n, quarter-texts text n)
