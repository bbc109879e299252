-- What is added at a few places makes a codeword, where the columns there make all five syndromes. No erasures. Assumes nothing.
use Rattle.field.proofs.Base.{◌≡◌, refl, sym, ap, ap₂, ◌∙◌, subst, ◌≢◌, Bool, true, false, cond, ◌||◌, List, [], ◌∷◌, map, ℕ, suc, ◌≤◌, ◌<◌, le_refl}
use Rattle.field.proofs.Base.{arith, eq-eqb, ne_eqb, ltb-true, lt-ltb, le-ltb, eqb, ltb, length}
use Rattle.field.specs.Polynomial.{add}
use Rattle.field.specs.Field.{order, product}
use Rattle.field.specs.Question.{all_below}
use Rattle.field.proofs.Laws.{IsField}
use Rattle.field.proofs.Widths.{field_of}
use Rattle.field.proofs.Below.{below-head, below-tail}
use Rattle.code.specs.declared.erasures.Trial.{Trial}
use Rattle.code.specs.declared.erasures.Correction.{Correction}
use Rattle.code.specs.Word.{checks, places, at, syndrome, Codeword}
use Rattle.code.specs.inner.Place.{column}
use Rattle.code.specs.Erasure.{member, distinct, masked_syndrome}
use Rattle.code.specs.Near.{distance}
use Rattle.code.specs.inner.Correction.{fill, Agrees, Lent, places_of, Ready, corrected, Corrects}
use Rattle.code.specs.inner.Locate.{without, full, AddsAt}
use Rattle.code.proofs.Algebra.{add-cancel}
use Rattle.code.proofs.distance.DistanceLaw.{distance-of}
use Rattle.code.proofs.Members.{append_left, member-append}
use Rattle.code.proofs.distance.Unique.{same-near}
use Rattle.code.proofs.Columns.{combine, syndrome-masked}
use Rattle.code.proofs.restoring.Filling.{Solution, fill-agrees, each_map, agrees-changes, solution-codeword}
use Rattle.code.proofs.restoring.Extra.{Falling, falling-le}
use Rattle.code.proofs.restoring.Trying.{sums_at}
use Rattle.code.proofs.finding.Pattern.{falling-distinct, falling-below, checks-outside, checks-inside}
use Rattle.code.proofs.finding.Finding.{full-falling, full-outside}

map_below : (f g : ℕ → ℕ) (n : ℕ) (ls : List ℕ) → all_below n ls ≡ true → ((p : ℕ) → p < n → f p ≡ g p) → map f ls ≡ map g ls
map_below f g n [] bs e = refl
map_below f g n (l ∷ ls) bs e = ap₂ ◌∷◌ (e l (below-head l ls n bs)) (map_below f g n ls (below-tail l ls n bs) e)

full-below : (f : ℕ → ℕ) → all_below checks (full checks f) ≡ true
full-below f = falling-below checks checks (full checks f) (le_refl checks) (full-falling f checks)

module _ {m : ℕ} (F : IsField m) where
  combine-add : (e f : ℕ → ℕ) (ls : List ℕ) (k : ℕ)
      → combine m ls (map (λ p. add (e p) (f p)) ls) k ≡ add (combine m ls (map e ls) k) (combine m ls (map f ls) k)
  unfolding combine
  combine-add e f [] k = sym (F.add-zero 0)
  combine-add e f (l ∷ ls) k = ap₂ add (F.product-add _ _ _) (combine-add e f ls k) ∙ simp (F.add_assoc, F.add_left_comm, F.add_comm)

  -- ---- values at the check places where they are not 0

  pub full-combine : (f : ℕ → ℕ) → ((k : ℕ) → k < checks → f k < order m) → (k : ℕ) → k < checks
      → f k ≡ combine m (full checks f) (map f (full checks f)) k
  full-combine f small k h = go (member k js) refl
    where
      js : List ℕ
      js = full checks f

      go : (t : Bool) → member k js ≡ t → f k ≡ combine m js (map f js) k
      go true o =
          sym (checks-inside F f k h js (full-below f) (falling-distinct checks js (full-falling f checks)) (small k h) o)
      go false o = full-outside f checks k h o ∙ sym (checks-outside F f k h js (full-below f) o)

-- u at the place p, v at every other
abbrev pub both_of : ℕ → ℕ → ℕ → ℕ → ℕ
both_of p u v i = cond (eqb i p) u v

pub both_first : (p u v : ℕ) → both_of p u v p ≡ u
both_first p u v = ap (λ (b : Bool). cond b u v) (eq-eqb p p refl)

pub both-second : (p q u v : ℕ) → q ≢ p → both_of p u v q ≡ v
both-second p q u v d = ap (λ (b : Bool). cond b u v) (ne_eqb q p d)

-- f at the check places, y at every other
abbrev pub besides : ℕ → (ℕ → ℕ) → ℕ → ℕ
besides y f i = cond (ltb i checks) (f i) y

pub besides-check : (y : ℕ) (f : ℕ → ℕ) (i : ℕ) → i < checks → besides y f i ≡ f i
besides-check y f i h = ap (λ (t : Bool). cond t (f i) y) (lt-ltb i checks h)

pub besides-data : (y : ℕ) (f : ℕ → ℕ) (i : ℕ) → checks ≤ i → besides y f i ≡ y
besides-data y f i h = ap (λ (t : Bool). cond t (f i) y) (le-ltb i checks h)

-- the trial t of the word w has no places
module _ {m : ℕ} {w : List ℕ} {t : Trial} (R : Ready m w t) (none : places_of t ≡ []) where
  F' : IsField m
  F' = field_of m R.width

  abbrev s : ℕ → ℕ
  s = at t.sums

  lent : Lent m w []
  lent = subst (Lent m w) none R.lent

  plain_at : (k : ℕ) → k < checks → s k ≡ syndrome m (at w) k
  plain_at k h = sums_at R k h ∙ ap (λ (es : List ℕ). masked_syndrome m es w k) none

  -- the values e at the places ls make the syndromes: so w with e added there is a codeword, and the only one that differs from w there alone
  module _ (e : ℕ → ℕ) (ls : List ℕ) (ds : distinct ls ≡ true) (bs : all_below (places m) ls ≡ true) (few : length ls ≤ 2)
      (small : (p : ℕ) → e p < order m) (rows : (k : ℕ) → k < checks → s k ≡ combine m ls (map e ls) k) where
    zs : List ℕ
    zs = map (λ p. add (at w p) (e p)) ls

    lent-there : Lent m w ls
    lent-there = record { size = lent.size; symbols = λ p h o. lent.symbols p h refl; distinct = ds; below = bs }

    solution : Solution m w ls zs
    unfolding zs
    solution = record {
      values = each_map (λ p z. z < order m) (λ p. add (at w p) (e p)) (places m) ls bs (λ p h. F'.add-lt _ _ (lent.symbols p h refl) (small p));
      rows = λ k h.
          combine-add F' (at w) e ls k
          ∙ ap (add (combine m ls (map (at w) ls) k)) (sym (rows k h) ∙ plain_at k h
          ∙ syndrome-masked F' ls ds bs (at w) (λ p l. lent.symbols p l refl) k h ∙ F'.add_comm _ _)
          ∙ add-cancel F' _ _;
    }

    adds-corrects : (n : ℕ) → length ls ≤ n → (c : Correction) → AddsAt w ls e c → Corrects m w [] n c
    unfolding zs
    adds-corrects n h c A =
        record {
          room = omega (arith, A.count);
          below = subst (λ (xs : List ℕ). all_below (places m) xs ≡ true) (sym A.places) bs;
          distinct = subst (λ (xs : List ℕ). distinct xs ≡ true) (sym A.places) ds;
          codeword = word;
          extra = ls;
          few = h;
          agrees = λ p l o. there p l (append_left ls [] p o);
          only = λ d D G. same-near F' (distance m) (distance-of m R.width) D word ls w 0 0 (omega arith)
              (agrees-changes m ls w d (λ p l o. G p l (member-append ls [] p ∙ ap₂ ◌||◌ o refl)))
              (agrees-changes m ls w (corrected w c) there);
        }
      where
        same : corrected w c ≡ fill w ls zs
        same = ap₂ (fill w) A.places A.values

        word : Codeword m (corrected w c)
        word = subst (Codeword m) (sym same) (solution-codeword F' lent-there solution)

        there : Agrees m ls w (corrected w c)
        there = subst (Agrees m ls w) (sym same) (fill-agrees m w ls zs)

  -- ---- check places alone, and a data place with check places

  module _ (y : ℕ) (hy : y < order m) (f : ℕ → ℕ) (small : (k : ℕ) → k < checks → f k < order m) where
    js : List ℕ
    js = full checks f

    besides-lt : (i : ℕ) → besides y f i < order m
    besides-lt i = go (ltb i checks) refl
      where
        go : (b : Bool) → ltb i checks ≡ b → cond b (f i) y < order m
        go true e = small i (ltb-true i checks e)
        go false e = hy

    besides-rows : (k : ℕ) → k < checks → f k ≡ combine m js (map (besides y f) js) k
    unfolding js
    besides-rows k h =
        full-combine F' f small k h
        ∙ ap (λ (vs : List ℕ). combine m js vs k) (sym (map_below (besides y f) f checks js (full-below f) (besides-check y f)))

    pub checks-corrects : ((k : ℕ) → k < checks → s k ≡ f k) → (n : ℕ) → n ≤ 2 → length (full checks f) ≤ n → (c : Correction)
        → AddsAt w (full checks f) (besides y f) c → Corrects m w [] n c
    unfolding js
    checks-corrects e n n2 h c A =
        adds-corrects (besides y f) js (falling-distinct checks js (full-falling f checks))
        (falling-below checks (places m) js (omega (arith, F'.one-lt)) (full-falling f checks)) (omega arith) besides-lt
        (λ k i. e k i ∙ besides-rows k i) n h c A

    pub beside-corrects : (p : ℕ) → checks ≤ p → p < places m → ((k : ℕ) → k < checks → f k ≡ without m s p y k) → (n : ℕ) → n ≤ 2
        → length (full checks f) < n → (c : Correction) → AddsAt w (p ∷ full checks f) (besides y f) c → Corrects m w [] n c
    unfolding js combine
    beside-corrects p hp lp e n n2 h c A =
        let fall : Falling (suc p) (p ∷ js) = (le_refl (suc p), falling-le checks p js hp (full-falling f checks)) in
        adds-corrects (besides y f) (p ∷ js) (falling-distinct (suc p) (p ∷ js) fall) (falling-below (suc p) (places m) (p ∷ js) lp fall)
        (omega arith) besides-lt
        (λ k i.
        sym (ap₂ (λ (v r : ℕ). add (product m (column m p k) v) r) (besides-data y f p hp) (sym (besides-rows k i) ∙ e k i ∙ F'.add_comm _ _)
        ∙ add-cancel F' _ _)) n h c A

  -- ---- two data places

  pub pair-corrects : (p q u v : ℕ) → q < p → p < places m → u < order m → v < order m
      → ((k : ℕ) → k < checks → s k ≡ add (product m (column m p k) u) (product m (column m q k) v))
      → (c : Correction) → AddsAt w (p ∷ q ∷ []) (both_of p u v) c → Corrects m w [] 2 c
  unfolding combine
  pair-corrects p q u v l lp hu hv e c A =
      let fall : Falling (suc p) (p ∷ q ∷ []) = (le_refl (suc p), (l, tt)) in
      adds-corrects (both_of p u v) (p ∷ q ∷ []) (falling-distinct (suc p) (p ∷ q ∷ []) fall) (falling-below (suc p) (places m) (p ∷ q ∷ []) lp fall)
      (le_refl 2) (λ i. both-lt (eqb i p))
      (λ k i. e k i ∙ ap₂ (λ (x y : ℕ). add (product m (column m p k) x) y) (sym (both_first p u v))
      (sym (F'.add-zero _ ∙ ap (product m (column m q k)) (both-second p q u v (λ d. omega arith))))) 2 (le_refl 2) c A
    where
      both-lt : (b : Bool) → cond b u v < order m
      both-lt true = hu
      both-lt false = hv
