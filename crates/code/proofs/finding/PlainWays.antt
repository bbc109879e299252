-- The search without erasures: the ways out of `correction_of` and of what calls it. Assumes nothing.
use Rattle.std.proofs.Common.{Option, Some, None as NoRoot}
use Rattle.field.proofs.Base.{◌≡◌, refl, sym, ap, ap₂, ◌∙◌, subst, Bool, true, false, List, [], ◌∷◌, ℕ, suc, ◌+◌, ◌-◌, ◌≤◌, ◌<◌, le_refl, add-one}
use Rattle.field.proofs.Base.{arith, length, get_or, take}
use Rattle.field.specs.Polynomial.{add}
use Rattle.field.specs.Field.{order, product, inverse}
use Rattle.field.specs.Question.{is_width, all_below}
use Rattle.field.proofs.Laws.{IsField}
use Rattle.field.proofs.Widths.{field_of}
use Rattle.field.proofs.Below.{below-head}
use Rattle.field.proofs.Evaluation.{five-at, five-cong}
use Rattle.code.specs.declared.word.Place.{Place}
use Rattle.code.specs.declared.erasures.Trial.{Trial}
use Rattle.code.specs.declared.erasures.Correction.{Correction}
use Rattle.field.specs.declared.Exponent.{Exponent}
use Rattle.code.specs.declared.roots.RootPair.{RootPair}
use Rattle.code.specs.declared.errors.FirstTwo.{FirstTwo}
use Rattle.code.specs.declared.errors.Pair.{Pair}
use Rattle.code.specs.declared.solver.Solutions.{Solutions}
use Rattle.code.specs.declared.solver.Solutions.TheVariants.{None, One}
use Rattle.code.specs.Word.{checks, five, places, items, at}
use Rattle.code.specs.inner.Place.{numbers, column}
use Rattle.code.specs.Erasure.{masked_syndrome}
use Rattle.code.specs.Call.{all_zero}
use Rattle.code.specs.inner.Correction.{Lent, places_of, Ready, Searched, NoneWithin}
use Rattle.code.specs.inner.Scan.{Carried, FirstRoot, Factored, TwoRoots}
use Rattle.code.specs.inner.Locate.{point, without, Ratio, TwoErrors, full, Lists, AddsAt, NoRatio, NoPair, NoPairs, PairValues}
use Rattle.code.proofs.Algebra.{add-of-eq}
use Rattle.code.proofs.Questions.{both_ways}
use Rattle.code.proofs.Members.{below-cons}
use Rattle.code.proofs.restoring.Extra.{Falling}
use Rattle.code.proofs.calls.Passing.{five-zero}
use Rattle.code.proofs.restoring.Trying.{sums_at, sums_lt, searched-none, searched-one, searched-last}
use Rattle.code.proofs.finding.Locator.{leading, middle, constant, second-value}
use Rattle.code.proofs.finding.Locating.{Named, by-zeros, by-low, by_high, by-pair, zeros-cong, column-point, none_named}
use Rattle.code.proofs.finding.Finding.{lists-cons, zeros-list, full_at, full-cong, least-root, carried-start, ratio-root, ratio-only}
use Rattle.code.proofs.finding.Finding.{roots-leading, roots-factored, pair-points, distinct-points}
use Rattle.code.proofs.finding.Adding.{both_of, both_first, both-second, besides, besides-check, besides-data, checks-corrects, beside-corrects}
use Rattle.code.proofs.finding.Adding.{pair-corrects}

-- ---- what is added

-- the correction that is made of at most two places, with a and b the symbols there
pub correction-adds : (w : List ℕ) (f : FirstTwo) (a b : ℕ) (c : Correction) → f.count ≤ 2 → c.count ≡ f.count
    → numbers c.places ≡ f.first.0 ∷ f.second.0 ∷ 0 ∷ 0 ∷ 0 ∷ [] → c.values ≡ a ∷ b ∷ 0 ∷ 0 ∷ 0 ∷ []
    → (ls : List ℕ) (e : ℕ → ℕ) → Lists f ls → a ≡ add (at w f.first.0) (e f.first.0) → b ≡ add (at w f.second.0) (e f.second.0)
    → AddsAt w ls e c
correction-adds w f a b c h en ep ev ls e L ea eb = go ls L
  where
    go : (ls : List ℕ) → Lists f ls → AddsAt w ls e c
    go [] L = record {
      count = en ∙ L.count;
      places = ap (λ (n : ℕ). take n (numbers c.places)) (en ∙ L.count);
      values = ap (λ (n : ℕ). take n c.values) (en ∙ L.count);
    }
    go (p ∷ []) L = record {
      count = en ∙ L.count;
      places = ap₂ take (en ∙ L.count) ep ∙ ap (λ (i : ℕ). i ∷ []) L.first;
      values = ap₂ take (en ∙ L.count) ev ∙ ap (λ (i : ℕ). i ∷ []) (ea ∙ ap (λ (i : ℕ). add (at w i) (e i)) L.first);
    }
    go (p ∷ q ∷ []) L = record {
      count = en ∙ L.count;
      places = ap₂ take (en ∙ L.count) ep ∙ ap₂ (λ (i j : ℕ). i ∷ j ∷ []) L.first L.second;
      values = ap₂ take (en ∙ L.count) ev
          ∙ ap₂ (λ (i j : ℕ). i ∷ j ∷ []) (ea ∙ ap (λ (i : ℕ). add (at w i) (e i)) L.first) (eb ∙ ap (λ (i : ℕ). add (at w i) (e i)) L.second);
    }
    go (p ∷ q ∷ r ∷ ls) L = absurd (omega (arith, L.count))

-- c adds y and z at the places f
abbrev Adds : List ℕ → FirstTwo → ℕ → ℕ → Correction → Type 0
Adds w f y z c = (ls : List ℕ) (e : ℕ → ℕ) → Lists f ls → y ≡ e f.first.0 → z ≡ e f.second.0 → AddsAt w ls e c

-- ---- check places alone

module _ (m : ℕ) (w : List ℕ) (t : Trial) (f : FirstTwo) (L : Lists f (full checks (at t.sums))) (reach : ℕ) where
  pub checks-found : (c : Correction) → Ready m w t → places_of t ≡ [] → reach ≤ 2 → f.count ≤ reach
      → Adds w f (at t.sums f.first.0) (at t.sums f.second.0) c
      → Searched m w [] reach (reach < length (full checks (at t.sums))) (One c)
  checks-found c R n h l A = searched-one
      (checks-corrects R n 0 (omega (arith, (field_of m R.width).one-lt)) s (sums_lt R) (λ k i. refl) reach h (omega (arith, L.count)) c
      (A (full checks s) (besides 0 s) L (here f.first.0 0 L.first) (here f.second.0 1 L.second)))
    where
      s : ℕ → ℕ
      s = at t.sums

      here : (p i : ℕ) → p ≡ get_or (full checks s) i 0 → s p ≡ besides 0 s p
      here p i d = sym (besides-check 0 s p (omega (arith, d, full_at s checks (omega arith) i)))

-- ---- a data place and the check places that are left

-- rest: the syndromes without y at p; f: those of them that are not 0
module _ {m : ℕ} {w : List ℕ} {t : Trial} (R : Ready m w t) (p : Place) (y : ℕ) (rest : List ℕ)
    (er : rest ≡ five (without m (at t.sums) p.0 y)) (f : FirstTwo) (L : Lists f (full checks (at rest))) (reach : ℕ) where
  rest_at : (k : ℕ) → k < checks → at rest k ≡ without m (at t.sums) p.0 y k
  rest_at k h = ap (λ (u : List ℕ). at u k) er ∙ five-at (without m (at t.sums) p.0 y) k h

  rest_lt : (k : ℕ) → k < checks → at rest k < order m
  rest_lt k h =
      let F = field_of m R.width in
      subst (λ (n : ℕ). n < order m) (sym (rest_at k h)) (F.add-lt _ _ (sums_lt R k h) (F.product_lt _ _))

  rest-full : full checks (at rest) ≡ full checks (without m (at t.sums) p.0 y)
  rest-full = full-cong checks (at rest) (without m (at t.sums) p.0 y) rest_at

  pub beside-over : reach ≤ f.count → Searched m w [] reach (reach ≤ length (full checks (without m (at t.sums) p.0 y))) None
  beside-over h = searched-none (omega (arith, L.count, ap length rest-full))

  pub beside-found : (c : Correction) → places_of t ≡ [] → checks ≤ p.0 → p.0 < places m → y < order m → reach ≤ 2 → f.count < reach
      → Adds w (record { count = f.count + 1; first = p; second = f.first }) y (at rest f.first.0) c
      → Searched m w [] reach (reach ≤ length (full checks (without m (at t.sums) p.0 y))) (One c)
  beside-found c n hp lp hy h l A = searched-one
      (beside-corrects R n y hy (at rest) rest_lt p.0 hp lp rest_at reach h (omega (arith, L.count)) c
      (A (p.0 ∷ full checks (at rest)) (besides y (at rest)) (lists-cons f _ p L) (sym (besides-data y (at rest) p.0 hp))
      (sym (besides-check y (at rest) f.first.0 (omega (arith, L.first, full_at (at rest) checks (omega arith) 0))))))

few-falls : (p : ℕ) (js : List ℕ) → checks ≤ p → all_below checks js ≡ true → length js < 2 → Falling p js
few-falls p [] h bs l = tt
few-falls p (j ∷ []) h bs l = let i : j < checks = below-head j [] checks bs in (omega arith, tt)
few-falls p (j ∷ k ∷ js) h bs l = absurd (omega arith)

-- ---- the ratio

module _ (m : ℕ) (wd : is_width m ≡ true) (w ss : List ℕ) (reach a : ℕ) where
  F' : IsField m
  F' = field_of m wd

  pub ratio-zero : at ss a ≡ 0 → Searched m w [] reach (NoRatio m (at ss) reach a) None
  ratio-zero z = searched-none (λ p js hp lp bs R l. R.first z)

  module _ (n : ℕ) (en : n ≡ items m) where
    abbrev Rooted : Option Exponent → Type 0
    Rooted r = (u v : ℕ) → is_width m ≡ true → Carried m u v 0 0 (at ss a) → FirstRoot m u v (at ss (a + 1)) 0 n r

    rooted : (r : Option Exponent) → Rooted r → (p : ℕ) (js : List ℕ) → Ratio m (at ss) a p js → FirstRoot m 0 (at ss a) (at ss (suc a)) 0 n r
    rooted r S p js R =
        subst (λ (j : ℕ). FirstRoot m 0 (at ss a) (at ss j) 0 n r) (add-one a)
        (S 0 (at ss a) wd (carried-start F' 0 (at ss a) (omega (arith, F'.one-lt)) R.small))

    pub ratio-out : Rooted NoRoot → Searched m w [] reach (NoRatio m (at ss) reach a) None
    ratio-out S = searched-none (λ p js hp lp bs R l. rooted NoRoot S p js R (p - checks) (omega arith) (omega arith) (ratio-root F' R))

    -- the first root is the place of the ratio
    ratio-at : (e : Exponent) → Rooted (Some e) → (p : ℕ) (js : List ℕ) → checks ≤ p → p < places m → Ratio m (at ss) a p js → e.0 ≡ p - checks
    ratio-at e S p js hp lp R =
        least-root m 0 (at ss a) (at ss (suc a)) 0 e.0 (rooted (Some e) S p js R) (omega arith) (p - checks) (omega arith) (ratio-root F' R)
        (λ t h l. ratio-only F' R hp lp t l)

    pub ratio-beside : (r : Exponent) → Rooted (Some r) → (x : Solutions Correction) (p y : ℕ) → p ≡ r.0 + 5 → y ≡ product m (at ss a) (inverse m (column m p a)) → reach ≤ 2
        → Searched m w [] reach (reach ≤ length (full checks (without m (at ss) p y))) x → Searched m w [] reach (NoRatio m (at ss) reach a) x
    ratio-beside r S x p y ep ey h T = searched-last (le_refl reach) (λ far q js hq lq bs R l.
        (let e : q ≡ p = omega (arith, ratio-at r S q js hq lq R) in
        let Z = zeros-cong (λ k i. ap₂ (λ (i j : ℕ). without m (at ss) i j k) e (ap (λ (j : ℕ). product m (at ss a) (inverse m (column m j a))) e ∙ sym ey)) R.rest in
        omega (arith, ap length (zeros-list (without m (at ss) p y) q js (few-falls q js hq bs (omega arith)) bs Z)))) T

-- ---- two data places

module _ {m : ℕ} (F : IsField m) (s : ℕ → ℕ) (small : (k : ℕ) → k < checks → s k < order m) (p q : ℕ) (hq : checks ≤ q) (l : q < p)
    (lp : p < places m) (x y : ℕ) (ex : x ≡ column m p 1) (ey : y ≡ column m q 1) (u v : ℕ) (eu : u ≡ add (s 0) v)
    (ev : v ≡ product m (add (s 1) (product m x (s 0))) (inverse m (add x y))) where
  at_one : (i : ℕ) → checks ≤ i → column m i 1 ≡ point m i
  at_one i h = column-point F i 1 h ∙ F.power-one _ (F.power-lt _ _)

  second-only : (u' v' : ℕ) → TwoErrors m s p q u' v' → v ≡ v'
  second-only u' v' T =
      ev ∙ ap₂ (λ (a b : ℕ). product m (add (s 1) (product m a (s 0))) (inverse m (add a b))) (ex ∙ at_one p (omega arith)) (ey ∙ at_one q hq)
      ∙ second-value F (pair-points F hq l lp T) (F.power-lt _ _) (F.power-lt _ _) (distinct-points F hq l lp T)
      T.nonzero.0 T.small.0 T.nonzero.1 T.small.1

  first-only : (u' v' : ℕ) → TwoErrors m s p q u' v' → u ≡ u'
  first-only u' v' T =
      eu ∙ ap₂ add (pair-points F hq l lp T).row0 (second-only u' v' T)
      ∙ F.add_assoc u' v' v' ∙ ap (add u') (F.add-self v') ∙ F.add-zero u'

  pub pair_values : PairValues m s p q (record { first = u; second = v })
  pair_values =
      let hv : v < order m = subst (λ (n : ℕ). n < order m) (sym ev) (F.product_lt _ _) in
      record {
        small = (subst (λ (n : ℕ). n < order m) (sym eu) (F.add-lt _ _ (small 0 (omega arith)) hv), hv);
        only = λ u' v' T. (first-only u' v' T, second-only u' v' T);
      }

-- first, rest: the syndromes without the value at p, and without both
module _ {m : ℕ} {w : List ℕ} {t : Trial} (R : Ready m w t) (none : places_of t ≡ []) (p q : Place) (l : q.0 < p.0) (lp : p.0 < places m)
    (y : Pair) (Y : PairValues m (at t.sums) p.0 q.0 y) (first rest : List ℕ)
    (ef : first ≡ five (without m (at t.sums) p.0 y.first)) (er : rest ≡ five (without m (at first) q.0 y.second)) where
  F'' : IsField m
  F'' = field_of m R.width

  abbrev s : ℕ → ℕ
  s = at t.sums

  without-both : (k : ℕ) → k < checks
      → without m (at first) q.0 y.second k ≡ add (s k) (add (product m (column m p.0 k) y.first) (product m (column m q.0 k) y.second))
  without-both k h =
      ap (λ (n : ℕ). add n (product m (column m q.0 k) y.second))
      (ap (λ (z : List ℕ). at z k) ef ∙ five-at (without m s p.0 y.first) k h)
      ∙ F''.add_assoc _ _ _

  pub pair-out : (b : Bool) → b ≡ all_zero rest → b ≡ false → Searched m w [] 2 (NoPair m s p.0 q.0) None
  pair-out b eb h = searched-none (λ u v T. both_ways (eb ∙ ap all_zero (er ∙ five-cong _ (λ k. 0) (gone u v T))) h)
    where
      gone : (u v : ℕ) → TwoErrors m s p.0 q.0 u v → (k : ℕ) → k < checks → without m (at first) q.0 y.second k ≡ 0
      gone u v T k i =
          let d = Y.only u v T in
          without-both k i
          ∙ ap₂ (λ (a b : ℕ). add (s k) (add (product m (column m p.0 k) a) (product m (column m q.0 k) b))) d.0 d.1
          ∙ add-of-eq F'' _ _ (T.rows k i)

  pub pair_found : (c : Correction) (b : Bool) → b ≡ all_zero rest → b ≡ true
      → Adds w (record { count = 2; first = p; second = q }) y.first y.second c → Searched m w [] 2 (NoPair m s p.0 q.0) (One c)
  pair_found c b eb h A = searched-one
      (pair-corrects R none p.0 q.0 y.first y.second l lp Y.small.0 Y.small.1 made c
      (A (p.0 ∷ q.0 ∷ []) (both_of p.0 y.first y.second) (record { count = refl; first = refl; second = refl })
      (sym (both_first p.0 y.first y.second)) (sym (both-second p.0 q.0 y.first y.second (λ d. omega arith)))))
    where
      made : (k : ℕ) → k < checks → s k ≡ add (product m (column m p.0 k) y.first) (product m (column m q.0 k) y.second)
      made k i = F''.eq-of-add _ _
          (sym (without-both k i) ∙ five-zero (without m (at first) q.0 y.second) (ap all_zero (sym er) ∙ sym eb ∙ h) k i)

-- ---- the roots of the locator

module _ (m : ℕ) (wd : is_width m ≡ true) (w ss : List ℕ) where
  F''' : IsField m
  F''' = field_of m wd

  pub roots-zero : leading m (at ss) ≡ 0 → Searched m w [] 2 (NoPairs m (at ss)) None
  roots-zero z = searched-none (λ p q hq l lp u v T. roots-leading F''' hq l lp T z)

  -- u, v and k are the locator's coefficients
  module _ (n : ℕ) (en : n ≡ items m) (u v k : ℕ) (eu : u ≡ leading m (at ss)) (ev : v ≡ middle m (at ss)) (ek : k ≡ constant m (at ss)) where
    abbrev Both : Option RootPair → Type 0
    Both r = is_width m ≡ true → u < order m → v < order m → k < order m → n ≡ items m → TwoRoots m u v k n r

    symbol : {x y : ℕ} → x ≡ y → y < order m → x < order m
    symbol e h = subst (λ (z : ℕ). z < order m) (sym e) h

    small : (a b c d : ℕ) → add (product m a b) (product m c d) < order m
    small a b c d = F'''.add-lt _ _ (F'''.product_lt a b) (F'''.product_lt c d)

    both : (r : Option RootPair) → Both r → TwoRoots m u v k n r
    both r N = N wd (symbol eu (small _ _ _ _)) (symbol ev (small _ _ _ _)) (symbol ek (small _ _ _ _)) en

    factored : (p q y z : ℕ) → checks ≤ q → q < p → p < places m → TwoErrors m (at ss) p q y z → Factored m u v k (q - checks) (p - checks)
    factored p q y z hq l lp T =
        let Q = roots-factored F''' hq l lp T in
        record {
          leading = λ e. Q.leading (sym eu ∙ e);
          sum = ev ∙ Q.sum ∙ ap (product m _) (sym eu);
          both = ek ∙ Q.both ∙ ap (product m _) (sym eu);
        }

    pub roots-none : Both NoRoot → Searched m w [] 2 (NoPairs m (at ss)) None
    roots-none N = searched-none (λ p q hq l lp y z T.
        both NoRoot N (q - checks) (p - checks) (omega arith) (omega arith) (factored p q y z hq l lp T))

    roots-named : (r : RootPair) → Both (Some r) → (p q y z : ℕ) → checks ≤ q → q < p → p < places m → TwoErrors m (at ss) p q y z
        → (r.low.0 ≡ q - checks) × (r.high.0 ≡ p - checks)
    roots-named r N p q y z hq l lp T = both (Some r) N (q - checks) (p - checks) (omega arith) (omega arith) (factored p q y z hq l lp T)

    pub roots-out : (r : RootPair) → Both (Some r) → (r.low.0 < r.high.0 → n ≤ r.high.0) → Searched m w [] 2 (NoPairs m (at ss)) None
    roots-out r N h = searched-none (λ p q hq l lp y z T.
        (let e = roots-named r N p q y z hq l lp T in
        let out = h (omega (arith, e.0, e.1)) in
        omega (arith, e.1)))

    -- the two places that are tried
    pub roots-pair : (r : RootPair) → Both (Some r) → (x : Solutions Correction) (i j : ℕ) → i ≡ r.low.0 + 5 → j ≡ r.high.0 + 5 → Searched m w [] 2 (NoPair m (at ss) j i) x
        → Searched m w [] 2 (NoPairs m (at ss)) x
    roots-pair r N solutions i j ei ej S = searched-last (le_refl 2) (λ no p q hq l lp y z T.
        (let e = roots-named r N p q y z hq l lp T in
        let x : q ≡ i = omega (arith, e.0) in
        let x' : p ≡ j = omega (arith, e.1) in
        no y z (subst (λ (a : ℕ). TwoErrors m (at ss) a i y z) x' (subst (λ (b : ℕ). TwoErrors m (at ss) p b y z) x T)))) S

-- ---- all of them

-- within r places, at most 2; what names two places is needed for two alone
pub plain-none : {m : ℕ} {w : List ℕ} {t : Trial} → Ready m w t → places_of t ≡ [] → (r : ℕ) → r ≤ 2 → r < length (full checks (at t.sums))
    → NoRatio m (at t.sums) r 0 → (2 ≤ r → NoRatio m (at t.sums) r 2 × NoPairs m (at t.sums)) → NoneWithin m w [] r
plain-none {m} {w} {t} R e r h over n0 n2 =
    none_named (field_of m R.width) (subst (Lent m w) e R.lent) (at t.sums)
    (λ k i. sums_at R k i ∙ ap (λ (es : List ℕ). masked_syndrome m es w k) e) h go
  where
    two : {p q : ℕ} {ls : List ℕ} → ls ≡ p ∷ q ∷ [] → length ls ≤ r → 2 ≤ r
    two E l = omega (arith, ap length E)

    go : (ls : List ℕ) → Falling (places m) ls → length ls ≤ r → Named m (at t.sums) ls → ⊥
    go ls fall few (by-zeros bs Z) = omega (arith, ap length (zeros-list (at t.sums) (places m) ls fall bs Z))
    go ls fall few (by-low p js E hp lp bs Q) = n0 p js hp lp bs Q (omega (arith, ap length E))
    go ls fall few (by_high p q E hp lp hq Q) = (n2 (two E few)).0 p (q ∷ []) hp lp (below-cons q [] checks hq refl) Q (omega (arith, ap length E))
    go ls fall few (by-pair p q u v E hq l lp T) = (n2 (two E few)).1 p q hq l lp u v T
