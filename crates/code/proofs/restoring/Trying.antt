-- Trials with extra places: a trial extended by a place is a trial, and a search with at most r extra places finds every codeword that is
-- near. Assumes nothing.
use Rattle.field.proofs.Base.{◌≡◌, refl, sym, ap, ap₂, ◌∙◌, subst, Bool, true, false, true≢false, List, [], ◌∷◌, ◌++◌, append_assoc, ℕ, zero, suc}
use Rattle.field.proofs.Base.{◌+◌, ◌-◌, ◌≤◌, ◌<◌, le_refl, arith, eqb, length, length-append}
use native.Mathlib.Nat.{le_trans}
use Rattle.field.specs.Polynomial.{add}
use Rattle.field.specs.Field.{order, product}
use Rattle.field.specs.Question.{all_below}
use Rattle.field.proofs.Laws.{IsField}
use Rattle.field.proofs.Widths.{field_of}
use Rattle.field.proofs.Below.{below-head, below-tail}
use Rattle.field.proofs.Evaluation.{five-at, five-cong}
use Rattle.code.specs.declared.erasures.Trial.{Trial}
use Rattle.code.specs.declared.erasures.Correction.{Correction}
use Rattle.code.specs.Word.{checks, five, places, at, Codeword}
use Rattle.code.specs.inner.Place.{column}
use Rattle.code.specs.Erasure.{member, distinct, masked_syndrome}
use Rattle.code.specs.inner.Correction.{Agrees, Lent, places_of, Ready, corrected}
use Rattle.code.specs.inner.Matrix.{is_solved, OrElse}
use Rattle.code.specs.inner.Correction.{NoneAt, SeveralAt, NoneFrom, Corrects, Ambiguous, Searched, NoneWithin}
use Rattle.code.specs.declared.solver.Solutions.{Solutions}
use Rattle.code.specs.declared.solver.Solutions.TheVariants.{None, One, Several}
use Rattle.code.proofs.Sums.{parity-lt}
use Rattle.code.proofs.Questions.{or-false-right, both_ways}
use Rattle.code.proofs.Members.{distinct_head, distinct_tail, distinct_cons, below-cons}
use Rattle.code.proofs.Columns.{masked-more}
use Rattle.code.proofs.restoring.Filling.{masked-lt}
use Rattle.code.proofs.restoring.Extra.{Falling, within-beside, wrong}

-- ---- the syndromes of a trial

module _ {m : ℕ} {w : List ℕ} {t : Trial} (R : Ready m w t) where
  F : IsField m
  F = field_of m R.width

  pub sums_at : (k : ℕ) → k < checks → at t.sums k ≡ masked_syndrome m (places_of t) w k
  sums_at k h = ap (λ (u : List ℕ). at u k) R.sums ∙ five-at (masked_syndrome m (places_of t) w) k h

  pub sums_lt : (k : ℕ) → k < checks → at t.sums k < order m
  sums_lt k h = subst (λ (n : ℕ). n < order m) (sym (sums_at k h))
      (F.add-lt _ _ (masked-lt F R.lent k (omega (arith, F.one-lt))) (parity-lt F _ k))

-- ---- one more place

lent-more : {m : ℕ} {w ls : List ℕ} → Lent m w ls → (p : ℕ) → p < places m → member p ls ≡ false → Lent m w (p ∷ ls)
lent-more {m} {w} {ls} W p h o = record {
  size = W.size;
  symbols = λ i l e. W.symbols i l (or-false-right (eqb i p) (member i ls) e);
  distinct = distinct_cons p ls o W.distinct;
  below = below-cons p ls (places m) h W.below;
}

-- the trial u is t with one more place p, where the word holds x
module _ (m : ℕ) (w : List ℕ) (t u : Trial) (p x : ℕ) (R : Ready m w t) (h : p < places m) (o : member p (places_of t) ≡ false) (ex : x ≡ at w p) where
  pub extended-symbol : x < order m
  extended-symbol = subst (λ (y : ℕ). y < order m) (sym ex) (R.lent.symbols p h o)

  pub extended-ready : places_of u ≡ p ∷ places_of t → u.sums ≡ five (λ k. add (at t.sums k) (product m (column m p k) x)) → Ready m w u
  extended-ready e f =
      let F = field_of m R.width in
      record {
        width = R.width;
        lent = subst (Lent m w) (sym e) (lent-more R.lent p h o);
        sums = f ∙ five-cong _ _ (λ k l.
            ap₂ (λ (y z : ℕ). add y (product m (column m p k) z)) (sums_at R k l) ex
            ∙ sym (masked-more F (places_of t) p h o (at w) k l (masked-lt F R.lent k (omega (arith, F.one-lt))))
            ∙ ap (λ (ls : List ℕ). masked_syndrome m ls w k) (sym e));
      }

-- ---- searches

-- nothing is found
pub searched-nothing : (x : Solutions Correction) (b : Bool) → b ≡ is_solved x → b ≡ false → x ≡ None
searched-nothing None b e f = refl
searched-nothing (One c) b e f = absurd (true≢false (sym e ∙ f))
searched-nothing Several b e f = absurd (true≢false (sym e ∙ f))

-- and nothing is there
pub searched-none : {m : ℕ} {w ls : List ℕ} {n : ℕ} {Far : Type 0} → Far → Searched m w ls n Far None
searched-none far = record { none = λ g. far; one = λ c g. absurd (cc); several = λ g. absurd (cc) }

-- one codeword was found
pub searched-one : {m : ℕ} {w ls : List ℕ} {n : ℕ} {Far : Type 0} {c : Correction} → Corrects m w ls n c → Searched m w ls n Far (One c)
searched-one {m} {w} {ls} {n} {c = c} C = record {
  none = λ g. absurd (cc);
  one = λ d g. let e : c ≡ d = cc in subst (Corrects m w ls n) e C;
  several = λ g. absurd (cc);
}

-- two codewords were found
pub searched-several : {m : ℕ} {w ls : List ℕ} {n : ℕ} {Far : Type 0} → Ambiguous m w ls n → Searched m w ls n Far Several
searched-several A = record { none = λ g. absurd (cc); one = λ c g. absurd (cc); several = λ g. A }

-- a search is the last of a wider one
pub searched-last : {m : ℕ} {w ls : List ℕ} {n r : ℕ} {Far Other : Type 0} {x : Solutions Correction} → n ≤ r → (Far → Other)
    → Searched m w ls n Far x → Searched m w ls r Other x
searched-last h o S = record {
  none = λ g. o (S.none g);
  one = λ c g. let C = S.one c g in
      record {
        room = C.room;
        below = C.below;
        distinct = C.distinct;
        codeword = C.codeword;
        extra = C.extra;
        few = le_trans C.few h;
        agrees = C.agrees;
        only = C.only;
      };
  several = λ g. let A = S.several g in record { extra = A.extra; few = le_trans A.few h; two = A.two };
}

-- something was found
pub searched-found : {m : ℕ} {w ls : List ℕ} {n r : ℕ} {Far Other : Type 0} {x : Solutions Correction} → n ≤ r → (b : Bool) → b ≡ is_solved x
    → b ≡ true → Searched m w ls n Far x → Searched m w ls r Other x
searched-found h b e f S =
    let T = searched-last h (λ far. far) S in
    record { none = λ g. absurd (true≢false (sym f ∙ e ∙ ap is_solved g)); one = T.one; several = T.several }

-- what is sought next, where nothing was found
pub searched-else : {m : ℕ} {w ls : List ℕ} {n r : ℕ} {Far : Type 0} (Further : Type 0) (x : Solutions Correction)
    (Next : Solutions Correction → Type 0) (y : Solutions Correction) → n ≤ r → Searched m w ls n Far x → OrElse x Next y
    → (Next y → Searched m w ls r Further y) → Searched m w ls r (Far × Further) y
searched-else Further None Next y h S E f = searched-last (le_refl _) (λ further. (S.none refl, further)) (f E)
searched-else {m} {w} {ls} {r = r} {Far} Further (One c) Next y h S E f =
    subst (Searched m w ls r (Far × Further)) (sym E) (searched-found h true refl refl S)
searched-else {m} {w} {ls} {r = r} {Far} Further Several Next y h S E f =
    subst (Searched m w ls r (Far × Further)) (sym E) (searched-found h true refl refl S)

-- a search with the trial u, which has the place p beside those of t, is one from t with one extra place more
pub searched-place : (m : ℕ) (w : List ℕ) (t u : Trial) (n : ℕ) (Far : List ℕ → Type 0) (x : Solutions Correction) (p : ℕ)
    → (places_of u ≡ p ∷ places_of t) × Ready m w u → (Ready m w u → Searched m w (places_of u) n (Far (places_of u)) x)
    → Searched m w (places_of t) (suc n) (member p (places_of t) ≡ false → Far (p ∷ places_of t)) x
searched-place m w t u n Far x p E S = record {
  none = λ g o. T.none g;
  one = λ c g. (let C = T.one c g in
      record {
        room = C.room;
        below = C.below;
        distinct = C.distinct;
        codeword = C.codeword;
        extra = C.extra ++ (p ∷ []);
        few = more C.extra C.few;
        agrees = subst (λ (xs : List ℕ). Agrees m xs w (corrected w c)) (moved C.extra) C.agrees;
        only = subst (λ (xs : List ℕ). (d : List ℕ) → Codeword m d → Agrees m xs w d → d ≡ corrected w c) (moved C.extra) C.only;
      });
  several = λ g. (let A = T.several g in
      record { extra = A.extra ++ (p ∷ []); few = more A.extra A.few; two = subst (SeveralAt m w) (moved A.extra) A.two });
}
  where
    T : Searched m w (p ∷ places_of t) n (Far (p ∷ places_of t)) x
    T = subst (λ (ls : List ℕ). Searched m w ls n (Far ls) x) E.0 (S E.1)

    more : (xs : List ℕ) → length xs ≤ n → length (xs ++ (p ∷ [])) ≤ suc n
    more xs h = simp length-append (omega arith)

    moved : (xs : List ℕ) → xs ++ (p ∷ places_of t) ≡ (xs ++ (p ∷ [])) ++ places_of t
    moved xs = sym (append_assoc xs (p ∷ []) (places_of t))

-- nothing is to be found with a place outside the word, nor with one that is tried already
pub searched-outside : {m : ℕ} {w ls : List ℕ} {n : ℕ} {Far : Type 0} (p : ℕ) → places m ≤ p
    → Searched m w ls n (p < places m → member p ls ≡ false → Far) None
searched-outside p h = searched-none (λ l o. absurd (omega arith))

pub searched-listed : {m : ℕ} {w ls : List ℕ} {n : ℕ} {Far : Type 0} (p : ℕ) → (b : Bool) → b ≡ member p ls → b ≡ true
    → Searched m w ls n (p < places m → member p ls ≡ false → Far) None
searched-listed p b f t = searched-none (λ l o. absurd (both_ways (sym f ∙ t) o))

-- ---- no more than n extra places

module _ (m : ℕ) (w : List ℕ) where
  -- nothing is there with no extra place, nor with one of those from `from` on and at most n - 1 more
  pub none_from : (ls : List ℕ) (from n : ℕ) → 0 < n → NoneAt m w ls
      → ((p : ℕ) → from ≤ p → p < places m → member p ls ≡ false → NoneFrom m w (p ∷ ls) (p + 1) (n - 1)) → NoneFrom m w ls from n
  unfolding NoneFrom
  none_from ls from zero h N f = absurd (omega arith)
  none_from ls from (suc n) h N f =
      let e : suc n - 1 ≡ n = omega arith in
      (N, λ p a b o. subst (NoneFrom m w (p ∷ ls) (p + 1)) e (f p a b o))

  pub none-exact : (ls : List ℕ) (from n : ℕ) → n ≡ 0 → NoneAt m w ls → NoneFrom m w ls from n
  unfolding NoneFrom
  none-exact ls from zero e N = N
  none-exact ls from (suc n) e N = absurd (omega arith)

  none_first : (ls : List ℕ) (from n : ℕ) → NoneFrom m w ls from n → NoneAt m w ls
  unfolding NoneFrom
  none_first ls from zero N = N
  none_first ls from (suc n) N = N.0

  none-later : (ls : List ℕ) (from to n : ℕ) → from ≤ to → NoneFrom m w ls from n → NoneFrom m w ls to n
  unfolding NoneFrom
  none-later ls from to zero h N = N
  none-later ls from to (suc n) h N = (N.0, λ p l. N.1 p (le_trans h l))

  -- the extra places are named from the lowest on
  none_beside : (es extra : List ℕ) (top n : ℕ) → Falling top extra → distinct (extra ++ es) ≡ true → all_below (places m) (extra ++ es) ≡ true
      → NoneFrom m w es 0 (length extra + n) → NoneFrom m w (extra ++ es) top n
  unfolding NoneFrom
  none_beside es [] top n f d b N =
      let e : 0 + n ≡ n = omega arith in
      none-later es 0 top n (omega arith) (subst (NoneFrom m w es 0) e N)
  none_beside es (p ∷ ps) top n f d b N =
      let e : length (p ∷ ps) + n ≡ length ps + suc n = omega arith in
      let M = none_beside es ps p (suc n) f.1 (distinct_tail p (ps ++ es) d) (below-tail p (ps ++ es) (places m) b)
      (subst (NoneFrom m w es 0) e N) in
      none-later (p ∷ (ps ++ es)) (p + 1) top n (omega (arith, f.0))
      (M.1 p (le_refl p) (below-head p (ps ++ es) (places m) b) (distinct_head p (ps ++ es) d))

  -- a codeword within r places agrees outside the erasures and at most r extra places
  pub none_within : (es : List ℕ) → Lent m w es → (r : ℕ) → NoneFrom m w es 0 r → NoneWithin m w es r
  none_within es W r N c near =
      let extra = wrong es w c (places m) in
      let B = within-beside W near in
      let e : r ≡ length extra + (r - length extra) = omega (arith, B.few) in
      none_first (extra ++ es) (places m) (r - length extra)
      (none_beside es extra (places m) (r - length extra) B.falling B.lent.distinct B.lent.below
      (subst (NoneFrom m w es 0) e N))
      c near.codeword B.agrees
