-- The wrong places of a word without erasures, from its five syndromes: for each codeword within two places, one of four tests passes and
-- names just the places at which it differs from the word. Assumes nothing.
use Rattle.field.proofs.Base.{◌≡◌, refl, sym, ap, ap₂, ◌∙◌, subst, ◌≢◌, Bool, true, false, cond, ◌||◌, List, [], ◌∷◌, map, ℕ, suc, ◌-◌, ◌*◌, ◌≤◌, ◌<◌}
use Rattle.field.proofs.Base.{le_refl, dec_lt, arith, eq-eqb, ne_eqb, eqb-false, eqb, length}
use Rattle.field.specs.Polynomial.{add}
use Rattle.field.specs.Field.{order, product, power, inverse, α}
use Rattle.field.specs.Question.{all_below}
use Rattle.field.proofs.Laws.{IsField}
use Rattle.code.specs.Word.{checks, places, at, syndrome}
use Rattle.code.specs.inner.Place.{column}
use Rattle.code.specs.Erasure.{member, distinct}
use Rattle.code.specs.Near.{Near}
use Rattle.code.specs.inner.Correction.{Lent, NoneWithin}
use Rattle.code.proofs.Algebra.{add-cancel, power-times}
use Rattle.code.proofs.Questions.{or-false-left, or-false-right}
use Rattle.code.proofs.Members.{member-append, below-cons}
use Rattle.code.proofs.Columns.{combine, column-power, column-lt}
use Rattle.code.proofs.restoring.Extra.{Falling, Beside, within-beside, wrong}
use Rattle.code.specs.inner.Locate.{Zeros, point, value_from, Ratio, TwoErrors}
use Rattle.code.proofs.finding.Locator.{quotient-back, term-suc}
use Rattle.code.proofs.finding.Pattern.{errors, Pattern, falling-distinct, falling-below, wrong-is, checks-zeros, pattern-of}

-- a test that passes on the sums s, and the places that it names, the highest first
pub data Named (m : ℕ) (s : ℕ → ℕ) (ls : List ℕ) : Type 0 where
  -- check places, or none
  by-zeros : all_below checks ls ≡ true → Zeros s ls → Named m s ls
  -- a data place, and no check place or one of 2, 3 and 4
  by-low : (p : ℕ) (js : List ℕ) → ls ≡ p ∷ js → checks ≤ p → p < places m → all_below checks js ≡ true → Ratio m s 0 p js → Named m s ls
  -- a data place, and check place 0 or 1
  by_high : (p q : ℕ) → ls ≡ p ∷ q ∷ [] → checks ≤ p → p < places m → q < checks → Ratio m s 2 p (q ∷ []) → Named m s ls
  -- two data places
  by-pair : (p q u v : ℕ) → ls ≡ p ∷ q ∷ [] → checks ≤ q → q < p → p < places m → TwoErrors m s p q u v → Named m s ls

pub zeros-cong : {s t : ℕ → ℕ} {ls : List ℕ} → ((k : ℕ) → k < checks → s k ≡ t k) → Zeros s ls → Zeros t ls
zeros-cong e Z = record {
  outside = λ k h o. sym (e k h) ∙ Z.outside k h o;
  inside = λ k h o z. Z.inside k h o (e k h ∙ z);
}

module _ {m : ℕ} (F : IsField m) where
  -- ---- points

  pub column-point : (p k : ℕ) → checks ≤ p → column m p k ≡ power m (point m p) k
  column-point p k h = column-power m p k h ∙ power-times F α (p - checks) k

  pub point-distinct : (p q : ℕ) → checks ≤ p → p < places m → checks ≤ q → q < places m → p ≢ q → point m p ≢ point m q
  point-distinct p q hp lp hq lq d e =
      let same : p - checks ≡ q - checks = F.α-distinct (p - checks) (q - checks) (omega arith) (omega arith) e in
      d (omega arith)

  pub column-nonzero : (p k : ℕ) → checks ≤ p → column m p k ≢ 0
  column-nonzero p k h e = F.α-nonzero (k * (p - checks)) (sym (column-power m p k h) ∙ e)

  -- one row on, the column is the point times what it was
  column-next : (p k y : ℕ) → checks ≤ p → product m (column m p (suc k)) y ≡ product m (point m p) (product m (column m p k) y)
  column-next p k y h =
      ap (λ (n : ℕ). product m n y) (column-point p (suc k) h) ∙ term-suc F (point m p) k y
      ∙ ap (λ (n : ℕ). product m (point m p) (product m n y)) (sym (column-point p k h))

  add_back : (a r : ℕ) → add (add a r) a ≡ r
  add_back a r = F.add_comm (add a r) a ∙ add-cancel F a r

  -- ---- a data place with check places

  module _ (s e : ℕ → ℕ) (p : ℕ) (js : List ℕ) (P : Pattern m s e (p ∷ js)) (h : checks ≤ p) (l : p < places m)
      (bs : all_below checks js ≡ true) (ds : distinct js ≡ true) (ne : (q : ℕ) → member q (p ∷ js) ≡ true → e q ≢ 0) where
    y : ℕ
    y = e p

    y-lt : y < order m
    unfolding y
    y-lt = P.small p l

    y-ne : y ≢ 0
    unfolding y
    y-ne = ne p (rw (eq-eqb p p refl))

    row : (k : ℕ) → k < checks → s k ≡ add (product m (column m p k) y) (combine m js (map e js) k)
    unfolding y combine
    row k i = P.rows k i

    rest-zeros : Zeros (λ k. combine m js (map e js) k) js
    rest-zeros = checks-zeros F e js bs ds P.small (λ q o. ne q (tail-member q o))
      where
        tail-member : (q : ℕ) → member q js ≡ true → member q (p ∷ js) ≡ true
        tail-member q o = go (eqb q p)
          where
            go : (t : Bool) → (t || member q js) ≡ true
            go true = refl
            go false = o

    -- a sum outside js has the data symbol alone
    alone : (k : ℕ) → k < checks → member k js ≡ false → s k ≡ product m (column m p k) y
    alone k i o = row k i ∙ ap (add (product m (column m p k) y)) (rest-zeros.outside k i o) ∙ F.add-zero _

    alone-ne : (k : ℕ) → k < checks → member k js ≡ false → s k ≢ 0
    alone-ne k i o z =
        F.product-nonzero _ _ (column-nonzero p k h) (column-lt F p k) y-ne y-lt (sym (alone k i o) ∙ z)

    alone-lt : (k : ℕ) → k < checks → member k js ≡ false → s k < order m
    alone-lt k i o = subst (λ (n : ℕ). n < order m) (sym (alone k i o)) (F.product_lt _ _)

    module _ (a : ℕ) (i : suc a < checks) (o : member a js ≡ false) (o' : member (suc a) js ≡ false) where
      ia : a < checks
      ia = omega arith

      ratio-multiple : s (suc a) ≡ product m (point m p) (s a)
      ratio-multiple = alone (suc a) i o' ∙ column-next p a y h ∙ ap (product m (point m p)) (sym (alone a ia o))

      -- the value from sum a is the symbol to be added
      ratio-value : value_from m s a p ≡ e p
      unfolding y
      ratio-value =
          ap (λ (n : ℕ). product m n (inverse m (column m p a))) (alone a ia o ∙ F.product-comm (column m p a) y)
          ∙ quotient-back F y (column m p a) y-lt (column-nonzero p a h) (column-lt F p a)

      pub ratio-of : Ratio m s a p js
      unfolding y
      ratio-of = record {
        first = alone-ne a ia o;
        small = alone-lt a ia o;
        multiple = ratio-multiple;
        rest = zeros-cong (λ k j. sym (
            ap₂ (λ (n v : ℕ). add n (product m (column m p k) v)) (row k j) ratio-value ∙ add_back (product m (column m p k) y) (combine m js (map e js) k))) rest-zeros;
      }

  -- ---- all patterns of at most two places

  single-other : (k q : ℕ) → k ≢ q → member k (q ∷ []) ≡ false
  single-other k q d = rw (ne_eqb k q d)

  pub named-pattern : (s e : ℕ → ℕ) (ls : List ℕ) → Falling (places m) ls → length ls ≤ 2 → Pattern m s e ls
      → ((p : ℕ) → member p ls ≡ true → e p ≢ 0) → Named m s ls
  unfolding combine
  named-pattern s e [] fall few P ne =
      by-zeros refl (zeros-cong (λ k h. sym (P.rows k h)) (checks-zeros F e [] refl refl P.small ne))
  named-pattern s e (p ∷ ps) fall few P ne = go (dec_lt p checks) ps fall few P ne
    where
      go-data : (q : ℕ) → Dec (q < checks) → Dec (q < 2) → checks ≤ p → q < p → p < places m → Pattern m s e (p ∷ q ∷ [])
          → ((r : ℕ) → member r (p ∷ q ∷ []) ≡ true → e r ≢ 0) → Named m s (p ∷ q ∷ [])
      go-data q (yes lc) (yes l2) h l lp P ne =
          by_high p q refl h lp lc
          (ratio-of s e p (q ∷ []) P h lp (below-cons q [] checks lc refl) refl ne 2 (omega arith)
          (single-other 2 q (λ d. omega arith)) (single-other 3 q (λ d. omega arith)))
      go-data q (yes lc) (no n2) h l lp P ne =
          by-low p (q ∷ []) refl h lp (below-cons q [] checks lc refl)
          (ratio-of s e p (q ∷ []) P h lp (below-cons q [] checks lc refl) refl ne 0 (omega arith)
          (single-other 0 q (λ d. omega arith)) (single-other 1 q (λ d. omega arith)))
      go-data q (no nc) d2 h l lp P ne =
          by-pair p q (e p) (e q) refl (omega arith) l lp (record {
            rows = λ k i. P.rows k i ∙ ap (add (product m (column m p k) (e p))) (F.add-zero _);
            small = (P.small p lp, P.small q (omega arith));
            nonzero = (ne p (rw (eq-eqb p p refl)), ne q (second (eqb q p)));
          })
        where
          second : (t : Bool) → (t || (eqb q q || false)) ≡ true
          second true = refl
          second false = rw (eq-eqb q q refl)

      go : Dec (p < checks) → (ps : List ℕ) → Falling (places m) (p ∷ ps) → length (p ∷ ps) ≤ 2 → Pattern m s e (p ∷ ps)
          → ((r : ℕ) → member r (p ∷ ps) ≡ true → e r ≢ 0) → Named m s (p ∷ ps)
      go (yes h) ps fall few P ne =
          let bs = falling-below (suc p) checks (p ∷ ps) h (le_refl (suc p), fall.1) in
          by-zeros bs (zeros-cong (λ k i. sym (P.rows k i)) (checks-zeros F e (p ∷ ps) bs (falling-distinct (places m) (p ∷ ps) fall) P.small ne))
      go (no n) [] fall few P ne =
          by-low p [] refl (omega arith) fall.0 refl
          (ratio-of s e p [] P (omega arith) fall.0 refl refl ne 0 (omega arith) refl refl)
      go (no n) (q ∷ []) fall few P ne = go-data q (dec_lt q checks) (dec_lt q 2) (omega arith) fall.1.0 fall.0 P ne
      go (no n) (q ∷ r ∷ ps) fall few P ne = absurd (omega arith)

  -- ---- words

  -- the errors of a codeword at its wrong places
  pub wrong-ne : (es w c : List ℕ) (n p : ℕ) → member p (wrong es w c n) ≡ true → errors es w c p ≢ 0
  wrong-ne es w c n p o z = eqb-false (at w p) (at c p) (or-false-right (member p es) (eqb (at w p) (at c p)) (wrong-is es w c n p o))
      (sym (ap (λ (t : Bool). cond t 0 (at w p)) (or-false-left (member p es) (eqb (at w p) (at c p)) (wrong-is es w c n p o))) ∙ F.eq-of-add _ _ z)

  -- the sums s are the word's syndromes
  module _ {w : List ℕ} (W : Lent m w []) (s : ℕ → ℕ) (sums : (k : ℕ) → k < checks → s k ≡ syndrome m (at w) k) where
    -- of a codeword within r places, r at most 2, a test names just the places at which it differs from the word
    pub named-wrong : {c : List ℕ} {r : ℕ} → r ≤ 2 → Near m [] w r c → Named m s (wrong [] w c (places m))
    named-wrong {c} {r} h N =
        named-pattern s (errors [] w c) ls B.falling (omega (arith, B.few))
        (record { small = P.small; rows = λ k l. sums k l ∙ P.rows k l })
        (wrong-ne [] w c (places m))
      where
        ls : List ℕ
        ls = wrong [] w c (places m)

        B : Beside m [] w r c ls
        B = within-beside W N

        P : Pattern m (syndrome m (at w)) (errors [] w c) ls
        P = pattern-of F W N.codeword ls (falling-distinct (places m) ls B.falling) (falling-below (places m) (places m) ls (le_refl (places m)) B.falling)
            (λ p l o. (refl, B.agrees p l (member-append ls [] p ∙ ap₂ ◌||◌ o refl)))

    -- so where no test passes there is none
    pub none_named : {r : ℕ} → r ≤ 2 → ((ls : List ℕ) → Falling (places m) ls → length ls ≤ r → Named m s ls → ⊥) → NoneWithin m w [] r
    none_named {r} h none c N =
        let B = within-beside W N in
        none (wrong [] w c (places m)) B.falling B.few (named-wrong h N)
