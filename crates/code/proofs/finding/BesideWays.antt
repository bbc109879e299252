-- The search beside erasures: the ways out of `try_root`, of `try_data` and of what it calls. Assumes nothing.
use Rattle.std.proofs.Common.{Option, Some, None as NoRoot}
use Rattle.field.proofs.Base.{◌≡◌, refl, sym, ap, ap₂, ◌∙◌, subst, ◌≢◌, true, false, List, [], ◌∷◌, ℕ, ◌+◌, ◌-◌, ◌*◌, ◌≤◌, ◌<◌, le_refl, ℕ_discrete}
use Rattle.field.proofs.Base.{arith, ne_eqb, length, get_or, set}
use Rattle.field.specs.Polynomial.{add}
use Rattle.field.specs.Field.{product, power, α}
use Rattle.field.specs.Question.{is_width, all_below}
use Rattle.field.proofs.Laws.{IsField}
use Rattle.field.proofs.Widths.{field_of}
use Rattle.field.proofs.Evaluation.{five-at}
use Rattle.code.specs.declared.erasures.Correction.{Correction}
use Rattle.code.specs.Word.{checks, places, items, five, at}
use Rattle.code.specs.Erasure.{member}
use Rattle.code.specs.Near.{distance, radius}
use Rattle.code.specs.inner.Correction.{Lent, NoneAt, NoneBeside, Searched, NoneWithin}
use Rattle.code.proofs.Algebra.{add-of-eq, power-times}
use Rattle.code.proofs.Members.{below-cons}
use Rattle.code.proofs.distance.Points.{one-injective, two-injective}
use Rattle.code.proofs.distance.DistanceLaw.{Distance}
use Rattle.code.proofs.finding.Cubes.{cubes-five}
use Rattle.code.proofs.restoring.Extra.{within-agrees}
use Rattle.code.proofs.restoring.Trying.{searched-none, searched-last}
use Rattle.code.specs.declared.solver.Solutions.{Solutions}
use Rattle.code.specs.declared.solver.Solutions.TheVariants.{None}
use Rattle.field.specs.declared.Exponent.{Exponent}
use Rattle.code.specs.declared.beside.Span.{Span}
use Rattle.code.specs.inner.Scan.{value_at, Carried, FirstRoot}
use Rattle.code.specs.inner.Locate.{point}
use Rattle.code.specs.inner.Beside.{Injective, eliminate, Step, Arranged, same, Rows, OneRoot, NoneRoot, NoneData, Only, Between, Apart, Eliminated}
use Rattle.code.proofs.finding.Finding.{least-root, carried-start, linear-value}

-- ---- one root

module _ (m : ℕ) (wd : is_width m ≡ true) (w es : List ℕ) (u v c : ℕ) (n : ℕ) (en : n ≡ items m) where
  abbrev Rooted : Option Exponent → Type 0
  Rooted r = (a b : ℕ) → is_width m ≡ true → Carried m a b 0 u v → FirstRoot m a b c 0 n r

  start : (b : ℕ) → OneRoot m u v c b → Carried m u v 0 u v
  start b O = carried-start (field_of m wd) u v O.small.0 O.small.1

  pub root-out : Rooted NoRoot → Searched m w es 1 (NoneRoot m w es u v c) None
  root-out S = searched-none (λ b hb lb o O. absurd (S u v wd (start b O) (b - checks) (omega arith) (omega arith) O.root))

  root-at : (e : Exponent) → Rooted (Some e) → (b : ℕ) → checks ≤ b → b < places m → OneRoot m u v c b → e.0 ≡ b - checks
  root-at e S b hb lb O =
      least-root m u v c 0 e.0 (S u v wd (start b O)) (omega arith) (b - checks) (omega arith) O.root
      (λ t h l. O.only t (omega arith) (λ e. omega arith))

  pub root-place : (r : Exponent) → Rooted (Some r) → (x : Solutions Correction) (p : ℕ) → p ≡ r.0 + 5 → Searched m w es 1 (NoneBeside m w p es) x → Searched m w es 1 (NoneRoot m w es u v c) x
  root-place r S x p ep T = searched-last (le_refl 1) (λ none b hb lb o O.
      (let e : p ≡ b = omega (arith, root-at r S b hb lb O) in
      subst (λ (j : ℕ). NoneAt m w (j ∷ es)) e (none (omega arith) (subst (λ (j : ℕ). member j es ≡ false) (sym e) o)))) T

-- ---- rows that are not erased

rows-only : (es : List ℕ) (c d h g k : ℕ) → Only es c d → h + (g + k) < checks → k ≢ c → k ≢ d → h + k ≢ c → h + k ≢ d → g + k ≢ c → g + k ≢ d
    → h + (g + k) ≢ c → h + (g + k) ≢ d → Rows es h g k
rows-only es c d h g k O l kc kd hc hd gc gd tc td = record {
  row = O k (omega arith) kc kd;
  row-h = O (h + k) (omega arith) hc hd;
  row-g = O (g + k) (omega arith) gc gd;
  row-hg = O (h + (g + k)) l tc td;
  last = l;
}

-- ---- a ratio as a root

module _ {m : ℕ} (F : IsField m) where
  square-value : (u c i : ℕ) → value_at m u 0 c i ≡ add (product m (power m α (2 * i)) u) c
  square-value u c i = ap (λ (n : ℕ). add (add (product m (power m α (2 * i)) u) n) c) (F.product-zero _) ∙ ap (λ (n : ℕ). add n c) (F.add-zero _)

  module _ (low high b : ℕ) (hb : checks ≤ b) (lb : b < places m) where
    same_point : (i : ℕ) → point m (checks + i) ≡ power m α i
    same_point i = let e : checks + i - checks ≡ i = omega arith in ap (power m α) e

    pub step-linear : Step m 1 low high b → OneRoot m 0 low high b
    step-linear S = record {
      small = (omega (arith, F.one-lt), S.small);
      root = linear-value F low high (b - checks)
          ∙ add-of-eq F _ _ (sym (S.next ∙ ap (λ (n : ℕ). product m n low) (F.power-one _ (F.power-lt _ _))));
      only = λ i h d z. S.only (checks + i) (omega arith) (omega arith) (λ e. d (omega arith))
          (sym (ap (λ (n : ℕ). product m n low) (F.power-one _ (F.power-lt _ _) ∙ same_point i)
          ∙ F.eq-of-add _ _ (sym (linear-value F low high i) ∙ z)));
    }

    pub step-square : Step m 2 low high b → OneRoot m low 0 high b
    step-square S = record {
      small = (S.small, omega (arith, F.one-lt));
      root = square-value low high (b - checks)
          ∙ add-of-eq F _ _ (ap (λ (n : ℕ). product m n low) (power-times F α (b - checks) 2) ∙ sym S.next);
      only = λ i h d z. S.only (checks + i) (omega arith) (omega arith) (λ e. d (omega arith))
          (sym (ap (λ (n : ℕ). product m n low) (ap (λ (n : ℕ). power m n 2) (same_point i) ∙ sym (power-times F α i 2))
          ∙ F.eq-of-add _ _ (sym (square-value low high i) ∙ z)));
    }

-- ---- beside check places

module _ (m : ℕ) (wd : is_width m ≡ true) (w es ss : List ℕ) (x : Solutions Correction) where
  F : IsField m
  F = field_of m wd

  module _ (c d : ℕ) (r : Span) (B : Between c d r) (bs : all_below checks es ≡ true) (O : Only es c d) where
    between-rows : Rows es 0 r.gap r.from
    between-rows = rows-only es c d 0 r.gap r.from O (omega (arith, B.fits)) B.low.0 B.low.1 (λ e. omega arith) (λ e. omega arith)
        B.high.0 B.high.1 (λ e. omega arith) (λ e. omega arith)

    pub between-linear : r.gap ≡ 1 → Searched m w es 1 (NoneRoot m w es 0 (at ss r.from) (at ss (r.gap + r.from))) x
        → Searched m w es 1 (NoneData m w es (at ss)) x
    between-linear e T = searched-last (le_refl 1) (λ none b hb lb o D.
        none b hb lb o (step-linear F _ _ b hb lb (subst (λ (g : ℕ). Step m g (at ss r.from) (at ss (r.gap + r.from)) b) e
        (D.beside-checks bs r.gap r.from (subst (Injective m) (sym e) (one-injective F)) between-rows)))) T

    pub between-square : (r.gap ≡ 1 → ⊥) → Searched m w es 1 (NoneRoot m w es (at ss r.from) 0 (at ss (r.gap + r.from))) x
        → Searched m w es 1 (NoneData m w es (at ss)) x
    between-square n T = searched-last (le_refl 1) (λ none b hb lb o D.
        none b hb lb o (step-square F _ _ b hb lb (subst (λ (g : ℕ). Step m g (at ss r.from) (at ss (r.gap + r.from)) b) two
        (D.beside-checks bs r.gap r.from (subst (Injective m) (sym two) (two-injective F)) between-rows)))) T
      where
        two : r.gap ≡ 2
        two = omega (arith, B.gap, n)

  -- ---- beside a data place

  module _ (a c : ℕ) (ha : checks ≤ a) (r : Span) (B : Apart c r) (cs : List ℕ) (A : Arranged es (a ∷ cs)) (bs : all_below checks cs ≡ true) (O : Only cs c c)
      (cube : c ≡ 2 → Injective m 3) where
    gap-one-to-one : Injective m r.gap
    gap-one-to-one = go (ℕ_discrete r.gap 1)
      where
        go : Dec (r.gap ≡ 1) → Injective m r.gap
        go (yes e) = subst (Injective m) (sym e) (one-injective F)
        go (no n) = subst (Injective m) (sym (B.gap n).0) (cube (B.gap n).1)

    apart-rows : Rows cs r.gap 1 r.from
    apart-rows = rows-only cs c c r.gap 1 r.from O B.fits B.low.0 B.low.0 B.high.0 B.high.0
        B.low.1 B.low.1 B.high.1 B.high.1

    pub eliminated-data : (low high : ℕ) → low ≡ add (at ss (r.gap + r.from)) (product m (power m (point m a) r.gap) (at ss r.from))
        → high ≡ add (at ss (r.gap + r.from + 1)) (product m (power m (point m a) r.gap) (at ss (r.from + 1)))
        → Searched m w es 1 (NoneRoot m w es 0 low high) x → Searched m w es 1 (NoneData m w es (at ss)) x
    unfolding eliminate
    eliminated-data low high el eh T = searched-last (le_refl 1) (λ none b hb lb o D.
        none b hb lb o (step-linear F low high b hb lb
        (subst (λ (y : ℕ). Step m 1 low y b) (sym (eh ∙ ap₂ (λ (i j : ℕ). add (at ss i) (product m (power m (point m a) r.gap) (at ss j))) over next))
        (subst (λ (y : ℕ). Step m 1 y (eliminate m r.gap (point m a) (at ss) (1 + r.from)) b) (sym el)
        (D.beside-data a cs A ha bs r.gap 1 r.from gap-one-to-one (one-injective F) apart-rows))))) T
      where
        over : r.gap + r.from + 1 ≡ r.gap + (1 + r.from)
        over = omega arith

        next : r.from + 1 ≡ 1 + r.from
        next = omega arith

  module _ (a : ℕ) (e : es ≡ a ∷ []) (ha : checks ≤ a) where
    pub eliminated-one : (u : List ℕ) → u ≡ five (eliminate m 1 (point m a) (at ss)) → Searched m w es 1 (NoneRoot m w es 0 (at u 0) (at u 1)) x
        → Searched m w es 1 (NoneData m w es (at ss)) x
    eliminated-one u eu T = searched-last (le_refl 1) (λ none b hb lb o D.
        none b hb lb o (step-linear F (at u 0) (at u 1) b hb lb
        (subst (λ (y : ℕ). Step m 1 (at u 0) y b) (sym (row 1 (omega arith)))
        (subst (λ (y : ℕ). Step m 1 y (eliminate m 1 (point m a) (at ss) 1) b) (sym (row 0 (omega arith)))
        (D.beside-data a [] (subst (λ (xs : List ℕ). Arranged xs (a ∷ [])) (sym e) same) ha refl 1 1 0 (one-injective F) (one-injective F) free))))) T
      where
        row : (k : ℕ) → k < 2 → at u k ≡ eliminate m 1 (point m a) (at ss) k
        row k h = ap (λ (y : List ℕ). at y k) eu ∙ five-at (eliminate m 1 (point m a) (at ss)) k (omega arith)

        free : Rows [] 1 1 0
        free = record { row = refl; row-h = refl; row-g = refl; row-hg = refl; last = omega arith }

  -- ---- beside two data places

  module _ (a c : ℕ) (e : es ≡ a ∷ c ∷ []) (ha : checks ≤ a) (hc : checks ≤ c) where
    pub eliminated-two : (v u : List ℕ) → v ≡ five (eliminate m 1 (point m a) (at ss)) → u ≡ five (eliminate m 1 (point m c) (at v))
        → Searched m w es 1 (NoneRoot m w es 0 (at u 0) (at u 1)) x → Searched m w es 1 (NoneData m w es (at ss)) x
    unfolding eliminate
    eliminated-two v u ev eu T = searched-last (le_refl 1) (λ none b hb lb o D.
        none b hb lb o (step-linear F (at u 0) (at u 1) b hb lb
        (subst (λ (y : ℕ). Step m 1 (at u 0) y b) (sym (row 1 (omega arith)))
        (subst (λ (y : ℕ). Step m 1 y (eliminate m 1 (point m c) (eliminate m 1 (point m a) (at ss)) 1) b) (sym (row 0 (omega arith)))
        (D.beside_two a c e ha hc 0 (omega arith)))))) T
      where
        row : (k : ℕ) → k < 2 → at u k ≡ eliminate m 1 (point m c) (eliminate m 1 (point m a) (at ss)) k
        row k h =
            ap (λ (y : List ℕ). at y k) eu ∙ five-at (eliminate m 1 (point m c) (at v)) k (omega arith)
            ∙ ap₂ (λ (i j : ℕ). add i (product m (power m (point m c) 1) j)) (first (1 + k) (omega arith)) (first k (omega arith))
          where
            first : (j : ℕ) → j < checks → at v j ≡ eliminate m 1 (point m a) (at ss) j
            first j l = ap (λ (y : List ℕ). at y j) ev ∙ five-at (eliminate m 1 (point m a) (at ss)) j l

-- ---- what is left without the erasures

pub eliminated-single : (m : ℕ) (es s rows : List ℕ) (p : ℕ) → es ≡ p ∷ []
    → (checks ≤ p → rows ≡ five (eliminate m 1 (point m p) (at s))) × (p < checks → rows ≡ set s p 0) → Eliminated m es s rows
eliminated-single m es s rows p e L = record {
  check = λ c f h. (let d = same_head c f in L.1 (omega (arith, d)) ∙ ap (λ (n : ℕ). set s n 0) d);
  one = λ a f h. (let d = same_head a f in L.0 (omega (arith, d)) ∙ ap (λ (n : ℕ). five (eliminate m 1 (point m n) (at s))) d);
  two = λ a c f h l. absurd (omega (arith, ap length (sym e ∙ f)));
}
  where
    same_head : (c : ℕ) → es ≡ c ∷ [] → p ≡ c
    same_head c f = ap (λ (xs : List ℕ). get_or xs 0 0) (sym e ∙ f)

pub eliminated-double : (m : ℕ) (es s rows : List ℕ) (p q : ℕ) → es ≡ p ∷ q ∷ []
    → (checks ≤ p → checks ≤ q → rows ≡ five (eliminate m 1 (point m q) (at (five (eliminate m 1 (point m p) (at s)))))) → Eliminated m es s rows
eliminated-double m es s rows p q e L = record {
  check = λ c f h. absurd (omega (arith, ap length (sym e ∙ f)));
  one = λ a f h. absurd (omega (arith, ap length (sym e ∙ f)));
  two = λ a c f h l.
      (let d : p ≡ a = ap (λ (xs : List ℕ). get_or xs 0 0) (sym e ∙ f) in
      let d' : q ≡ c = ap (λ (xs : List ℕ). get_or xs 1 0) (sym e ∙ f) in
      L (omega (arith, d)) (omega (arith, d'))
      ∙ ap₂ (λ (i j : ℕ). five (eliminate m 1 (point m j) (at (five (eliminate m 1 (point m i) (at s)))))) d d');
}

-- ---- the erasures of a trial

pub only_one : (p d : ℕ) → Only (p ∷ []) p d
only_one p d k h n n' = rw (ne_eqb k p n)

pub only_two : (p q : ℕ) → Only (p ∷ q ∷ []) p q
only_two p q k h n n' = rw (ne_eqb k p n, ne_eqb k q n')

pub only-swap : (p q : ℕ) → Only (p ∷ q ∷ []) q p
only-swap p q k h n n' = rw (ne_eqb k p n', ne_eqb k q n)

pub below_one : (p : ℕ) → p < checks → all_below checks (p ∷ []) ≡ true
below_one p h = below-cons p [] checks h refl

pub below_two : (p q : ℕ) → p < checks → q < checks → all_below checks (p ∷ q ∷ []) ≡ true
below_two p q h l = below-cons p (q ∷ []) checks h (below_one q l)

-- ---- reach

-- one extra place beside two erasures is allowed where the distance is 5 alone, and there cubing is one to one
pub cubes-beside : (m : ℕ) → is_width m ≡ true → Distance m (distance m) → 1 ≤ radius m 2 → Injective m 3
cubes-beside m w D h = let e : distance m ≡ 5 = omega arith in cubes-five (field_of m w) (subst (Distance m) e D)

pub near_same : (m : ℕ) (w es : List ℕ) (r r' : ℕ) (x : Solutions Correction) → r' ≡ r → Searched m w es r (NoneWithin m w es r) x
    → Searched m w es r' (NoneWithin m w es r') x
near_same m w es r r' x e S = subst (λ (n : ℕ). Searched m w es n (NoneWithin m w es n) x) (sym e) S

pub near-zero : (m : ℕ) (w es : List ℕ) (r : ℕ) (x : Solutions Correction) → Lent m w es → r ≡ 0 → Searched m w es 0 (NoneAt m w es) x
    → Searched m w es r (NoneWithin m w es r) x
near-zero m w es r x W e S = near_same m w es 0 r x e
    (searched-last (le_refl 0) (λ n c N. n c N.codeword (within-agrees W c N refl)) S)
