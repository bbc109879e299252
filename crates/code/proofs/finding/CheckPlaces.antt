-- One wrong check place beside erasures: where it is none of the n rows from k on, those rows come from the erased places alone, so what is
-- left of them without these is 0. Assumes nothing.
use Rattle.field.proofs.Base.{◌≡◌, sym, ap, ap₂, ◌∙◌, subst, ◌≢◌, true, List, [], ◌∷◌, ◌++◌, map, ℕ, ◌+◌, ◌≤◌, ◌<◌, le_refl, dec_lt, ℕ_discrete}
use Rattle.field.proofs.Base.{arith, ne_eqb, length, set, get_or-set_same, get_or-set_other}
use lib.ListN.{get_or-eq_default}
use Rattle.field.specs.Polynomial.{add}
use Rattle.field.specs.Field.{order, product, power}
use Rattle.field.specs.Question.{is_width}
use Rattle.field.specs.inner.Operand.{Operand}
use Rattle.field.proofs.Laws.{IsField}
use Rattle.field.proofs.Widths.{field_of}
use Rattle.field.proofs.Evaluation.{five-at, five-cong}
use Rattle.code.specs.declared.erasures.Trial.{Trial}
use Rattle.code.specs.Word.{checks, five, places, at}
use Rattle.code.specs.inner.Place.{column}
use Rattle.code.specs.Erasure.{masked_syndrome}
use Rattle.code.specs.inner.Matrix.{Operands, row_add}
use Rattle.code.specs.inner.Correction.{Lent, places_of, Ready, NoneBeside}
use Rattle.code.specs.inner.Locate.{point}
use Rattle.code.specs.inner.Beside.{eliminate, NoneCheck, NoneOutside, Tell}
use Rattle.code.proofs.Loops.{Sought}
use Rattle.code.proofs.Questions.{not-member-tail}
use Rattle.code.proofs.Members.{distinct_cons, below-cons}
use Rattle.code.proofs.Columns.{combine, column-none, column-lt}
use Rattle.code.proofs.restoring.Correcting.{five-operands}
use Rattle.code.proofs.restoring.Trying.{sums_at, sums_lt}
use Rattle.code.proofs.finding.Pattern.{errors, Pattern, checks-outside, pattern-of}
use Rattle.code.proofs.finding.Locating.{column-point}
use Rattle.code.proofs.finding.BesideWays.{below_one}
use Rattle.code.proofs.finding.Ratios.{term, column-term, eliminate-add, eliminate-term, eliminate-own, eliminate-rows}

-- ---- a range of check places

-- its places are tried in vain
pub range-tried : (m : ℕ) (w es : List ℕ) (low high p : ℕ) → NoneOutside m w es low high → high ≤ p → Sought (λ i. NoneBeside m w i es) low p
    → NoneCheck m w es
range-tried m w es low high p out h sought b hb = go (dec_lt b low) (dec_lt b high)
  where
    go : Dec (b < low) → Dec (b < high) → NoneBeside m w b es
    go (yes l) d = out b hb (λ l' u. omega arith)
    go (no n) (yes u) = sought b (omega arith) (omega arith)
    go (no n) (no n') = out b hb (λ l u. n' u)

-- ---- what rows that are not 0 tell

tell-five : (m : ℕ) (w es : List ℕ) (n : ℕ) (u : ℕ → ℕ) (rows : List ℕ) → 0 < n → rows ≡ five u → Tell m w es n u → Tell m w es n (at rows)
tell-five m w es n u rows h e T k l x = T k l (λ z. x (ap (λ (v : List ℕ). at v k) e ∙ five-at u k (omega arith) ∙ z))

module _ {m : ℕ} (F : IsField m) {w es : List ℕ} (W : Lent m w es) (s : ℕ → ℕ) (sums : (k : ℕ) → k < checks → s k ≡ masked_syndrome m es w k) where
  -- x is 0 if the n sums from k on come from the erased places alone
  tell : (x k n : ℕ) → k + n ≤ checks → ((e : ℕ → ℕ) → ((j : ℕ) → k ≤ j → j < k + n → s j ≡ combine m es (map e es) j) → x ≡ 0)
      → x ≢ 0 → NoneOutside m w es k (k + n)
  unfolding combine
  tell x k n h none nx b hb out lb o c C a = nx (none e row)
    where
      e : ℕ → ℕ
      e = errors es w c

      P : Pattern m (masked_syndrome m es w) e (b ∷ es)
      P = pattern-of F W C (b ∷ es) (distinct_cons b es o W.distinct) (below-cons b es (places m) lb W.below)
          (λ p l f. (not-member-tail p b es f, a p l f))

      row : (j : ℕ) → k ≤ j → j < k + n → s j ≡ combine m es (map e es) j
      row j l l' =
          sums j (omega arith) ∙ P.rows j (omega arith)
          ∙ ap (λ (y : ℕ). add y (combine m es (map e es) j))
          (ap (λ (y : ℕ). product m y (e b)) (column-none m b j hb (λ d. out (omega arith) (omega arith))) ∙ F.zero-product (e b))
          ∙ F.zero-add _

  -- a check place erased
  tell-check : (c : ℕ) → es ≡ c ∷ [] → c < checks → (k : ℕ) → k < checks → k ≢ c → s k ≢ 0 → NoneOutside m w es k (k + 1)
  tell-check c E hc k h d = tell (s k) k 1 (omega arith) (λ e row.
      row k (le_refl k) (omega arith) ∙ ap (λ (xs : List ℕ). combine m xs (map e xs) k) E
      ∙ checks-outside F e k h (c ∷ []) (below_one c hc) (rw (ne_eqb k c d)))

  -- one data place erased
  tell-one : (a : ℕ) → es ≡ a ∷ [] → checks ≤ a → Tell m w es 2 (eliminate m 1 (point m a) s)
  unfolding combine
  tell-one a E ha k h = tell _ k 2 h (λ e row.
      (let r : (j : ℕ) → k ≤ j → j < k + 2 → s j ≡ term F (point m a) (e a) j = λ j l l'.
      row j l l' ∙ ap (λ (xs : List ℕ). combine m xs (map e xs) j) E ∙ F.add-zero _ ∙ column-term F e a j ha in
      eliminate-rows F 1 (point m a) s (term F (point m a) (e a)) k (r k (omega arith) (omega arith)) (r (1 + k) (omega arith) (omega arith))
      ∙ eliminate-own F 1 (point m a) (e a) k))

  -- two data places erased
  tell-two : (a c : ℕ) → es ≡ a ∷ c ∷ [] → checks ≤ a → checks ≤ c → Tell m w es 3 (eliminate m 1 (point m c) (eliminate m 1 (point m a) s))
  unfolding combine
  tell-two a c E ha hc k h = tell _ k 3 h zero_of
    where
      zero_of : (e : ℕ → ℕ) → ((j : ℕ) → k ≤ j → j < k + 3 → s j ≡ combine m es (map e es) j)
          → eliminate m 1 (point m c) (eliminate m 1 (point m a) s) k ≡ 0
      zero_of e row =
          eliminate-rows F 1 (point m c) (eliminate m 1 (point m a) s) (term F (point m c) v) k
          (left k (omega arith) (omega arith)) (left (1 + k) (omega arith) (omega arith))
          ∙ eliminate-own F 1 (point m c) v k
        where
          v : ℕ
          v = product m (e c) (add (power m (point m c) 1) (power m (point m a) 1))

          r : (j : ℕ) → k ≤ j → j < k + 3 → s j ≡ add (term F (point m a) (e a) j) (term F (point m c) (e c) j)
          r j l l' =
              row j l l' ∙ ap (λ (xs : List ℕ). combine m xs (map e xs) j) E
              ∙ ap₂ add (column-term F e a j ha) (F.add-zero _ ∙ column-term F e c j hc)

          left : (j : ℕ) → k ≤ j → j < k + 2 → eliminate m 1 (point m a) s j ≡ term F (point m c) v j
          left j l l' =
              eliminate-rows F 1 (point m a) s (λ i. add (term F (point m a) (e a) i) (term F (point m c) (e c) i)) j
              (r j l (omega arith)) (r (1 + j) (omega arith) (omega arith))
              ∙ eliminate-add F 1 (point m a) (term F (point m a) (e a)) (term F (point m c) (e c)) j
              ∙ ap₂ add (eliminate-own F 1 (point m a) (e a) j) (eliminate-term F 1 (point m a) (point m c) (e c) j)
              ∙ F.zero-add _

-- the rows of `differences`, as one row of the solver added to another
pub differences-row : {m : ℕ} (F : IsField m) (a x : ℕ) (s r : List ℕ) → is_width m ≡ true → length s ≡ 5 → checks ≤ a
    → ((k : ℕ) → k < checks → at s k < order m) → x ≡ column m a 1
    → (Operand m x → Operands m (five (at s) ++ 0 ∷ 0 ∷ 0 ∷ []) → r ≡ row_add m (at s 1 ∷ at s 2 ∷ at s 3 ∷ at s 4 ∷ 0 ∷ 0 ∷ 0 ∷ 0 ∷ []) x (five (at s) ++ 0 ∷ 0 ∷ 0 ∷ []))
    → five (at r) ≡ five (eliminate m 1 (point m a) (at s))
unfolding eliminate
differences-row {m} F a x s r w size h small ex er =
    ap (λ (u : List ℕ). five (at u))
    (er (record { width = w; symbol = subst (λ (n : ℕ). n < order m) (sym ex) (column-lt F a 1) }) (five-operands F (at s) w small)
    ∙ ap (λ (z : ℕ). row_add m (at s 1 ∷ at s 2 ∷ at s 3 ∷ at s 4 ∷ z ∷ 0 ∷ 0 ∷ 0 ∷ []) x (five (at s) ++ 0 ∷ 0 ∷ 0 ∷ []))
    (sym (get_or-eq_default s 0 {n = 5} (omega arith))))
    ∙ five-cong _ _ (λ k l. ap (λ (y : ℕ). add (at s (1 + k)) (product m y (at s k))) (ex ∙ column-point F a 1 h))

-- ---- the rows of a trial

module _ {m : ℕ} {w : List ℕ} {t : Trial} (R : Ready m w t) where
  F : IsField m
  F = field_of m R.width

  pub rows-check : (c : ℕ) → places_of t ≡ c ∷ [] → c < checks → Tell m w (places_of t) 1 (at (set t.sums c 0))
  rows-check c E hc k h x = go (ℕ_discrete k c)
    where
      go : Dec (k ≡ c) → NoneOutside m w (places_of t) k (k + 1)
      go (yes d) =
          absurd (x (ap (at (set t.sums c 0)) d ∙ get_or-set_same t.sums c 0 0 (subst (λ (u : List ℕ). c < length u) (sym R.sums) hc)))
      go (no d) =
          tell-check F R.lent (at t.sums) (sums_at R) c E hc k (omega arith) d (λ z. x (get_or-set_other t.sums c k 0 0 d ∙ z))

  pub rows-one : (a : ℕ) → places_of t ≡ a ∷ [] → checks ≤ a → (rows : List ℕ) → rows ≡ five (eliminate m 1 (point m a) (at t.sums))
      → Tell m w (places_of t) 2 (at rows)
  rows-one a E ha rows e = tell-five m w (places_of t) 2 _ rows (omega arith) e (tell-one F R.lent (at t.sums) (sums_at R) a E ha)

  module _ (a : ℕ) (first : List ℕ) (e : first ≡ five (eliminate m 1 (point m a) (at t.sums))) where
    first-at : (k : ℕ) → k < checks → at first k ≡ eliminate m 1 (point m a) (at t.sums) k
    first-at k h = ap (λ (v : List ℕ). at v k) e ∙ five-at (eliminate m 1 (point m a) (at t.sums)) k h

    next-lt : (k : ℕ) → k < checks → at t.sums (1 + k) < order m
    next-lt k h = go (dec_lt (1 + k) checks)
      where
        go : Dec (1 + k < checks) → at t.sums (1 + k) < order m
        go (yes l) = sums_lt R (1 + k) l
        go (no n) =
            let z : 1 + k ≡ 5 = omega arith in
            subst (λ (j : ℕ). at t.sums j < order m) (sym z)
            (subst (λ (u : List ℕ). at u 5 < order m) (sym R.sums) (omega (arith, F.one-lt)))

    pub first-lt : (k : ℕ) → k < checks → at first k < order m
    unfolding eliminate
    first-lt k h = subst (λ (n : ℕ). n < order m) (sym (first-at k h)) (F.add-lt _ _ (next-lt k h) (F.product_lt _ _))

    pub rows-two : (c : ℕ) → places_of t ≡ a ∷ c ∷ [] → checks ≤ a → checks ≤ c → (rows : List ℕ) → rows ≡ five (eliminate m 1 (point m c) (at first))
        → Tell m w (places_of t) 3 (at rows)
    rows-two c E ha hc rows er = tell-five m w (places_of t) 3 _ rows (omega arith) er (λ k h x.
        tell-two F R.lent (at t.sums) (sums_at R) a c E ha hc k h
        (λ z. x (eliminate-rows F 1 (point m c) (at first) (eliminate m 1 (point m a) (at t.sums)) k (first-at k (omega arith)) (first-at (1 + k) (omega arith))
        ∙ z)))
