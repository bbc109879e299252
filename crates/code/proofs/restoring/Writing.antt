-- Writing a correction: its values are put into the word at its places, from the last to the first, and the changes outside the erasures are
-- counted there alone. Assumes nothing.
use Rattle.field.proofs.Base.{◌≡◌, refl, sym, ap, ap₂, ◌∙◌, subst, ◌≢◌, true, cond, List, [], ◌∷◌, ℕ, zero, suc, ◌+◌, ◌-◌, ◌≤◌, ◌<◌, le_refl}
use Rattle.field.proofs.Base.{not-suc-le-zero, ℕ_discrete, arith, length, get_or, set, take, drop, drop_of_length-le, length-take-le, get_or-set_same}
use Rattle.field.proofs.Base.{get_or-set_other}
use Rattle.field.specs.Question.{all_below}
use Rattle.code.specs.Word.{at}
use Rattle.code.specs.Erasure.{member, distinct, differ, total, changes_below}
use Rattle.code.specs.inner.Correction.{fill}
use Rattle.code.proofs.Sums.{total-cong, total-zero}
use Rattle.code.proofs.Members.{distinct_head, distinct_tail}
use Rattle.code.proofs.restoring.Filling.{length-fill, fill-other}
use Rattle.code.proofs.restoring.Repairing.{change-same, changes-le, place-below, part}

-- ---- the count of changes, by the places written

-- f and g agree but at p, where f is 0
total-at : (f g : ℕ → ℕ) (p : ℕ) → ((i : ℕ) → i ≢ p → g i ≡ f i) → f p ≡ 0 → (n : ℕ) → p < n → total n f + g p ≡ total n g
unfolding total
total-at f g p e z zero h = absurd (not-suc-le-zero h)
total-at f g p e z (suc n) h = go (ℕ_discrete n p) (λ l. total-at f g p e z n l)
  where
    go : Dec (n ≡ p) → (p < n → total n f + g p ≡ total n g) → total n f + f n + g p ≡ total n g + g n
    go (yes d) ih = omega (arith, total-cong g f n (λ i l. e i (λ q. omega arith)), ap f d, ap g d, z)
    go (no d) ih = omega (arith, ih (omega arith), e n d)

-- the words are the same
pub changes-same : (n : ℕ) (es w : List ℕ) → 0 ≡ changes_below n es w w
changes-same n es w =
    sym (total-cong (λ p. cond (member p es) 0 (differ (at w p) (at w p))) (λ p. 0) n
    (λ p h. sym (change-same (member p es) (at w p) (at w p) refl)) ∙ total-zero n)

-- one place more is written, at which u is still as w was
pub changes-set : (n : ℕ) (es w u : List ℕ) (p v k d : ℕ) → p < n → p < length u → at u p ≡ at w p → k ≡ changes_below n es w u
    → d ≡ cond (member p es) 0 (differ (at u p) v) → k + d ≡ changes_below n es w (set u p v)
changes-set n es w u p v k d h l s e f =
    ap₂ ◌+◌ e (f ∙ ap₂ (λ (x y : ℕ). cond (member p es) 0 (differ x y)) s (sym (get_or-set_same u p v 0 l)))
    ∙ total-at (λ i. cond (member i es) 0 (differ (at w i) (at u i))) (λ i. cond (member i es) 0 (differ (at w i) (at (set u p v) i))) p
    (λ i q. ap (λ (x : ℕ). cond (member i es) 0 (differ (at w i) x)) (get_or-set_other u p i v 0 q))
    (sym (change-same (member p es) (at w p) (at u p) (sym s))) n h

-- ---- writing the values at the first c places ps, from the last to the first

distinct-drop : (i : ℕ) (ls : List ℕ) → distinct ls ≡ true → distinct (drop i ls) ≡ true
distinct-drop zero ls ds = ds
distinct-drop (suc i) [] ds = ds
distinct-drop (suc i) (l ∷ ls) ds = distinct-drop i ls (distinct_tail l ls ds)

-- the values from i on are written, the word w is u so far, and k of its symbols outside es are changed
pub record Written (c : ℕ) (ps vs es w u : List ℕ) (k i : ℕ) : Type 0 where
  pub within : i ≤ c
  pub word : u ≡ fill w (drop i (take c ps)) (drop i (take c vs))
  pub changed : k ≡ changes_below (length w) es w u

pub written_start : (c : ℕ) (ps vs es w : List ℕ) → c ≤ length ps → Written c ps vs es w w 0 c
unfolding fill
written_start c ps vs es w l = record {
  within = le_refl c;
  word = sym (ap (λ (ls : List ℕ). fill w ls (drop c (take c vs))) (drop_of_length-le (take c ps) {i = c} (omega (arith, length-take-le c ps l))));
  changed = changes-same (length w) es w;
}

pub written-size : {c : ℕ} {ps vs es w u : List ℕ} {k i : ℕ} → Written c ps vs es w u k i → length u ≡ length w
written-size W = ap length W.word ∙ length-fill _ _ _

module _ {c : ℕ} {ps vs es w u : List ℕ} {k i : ℕ} (lp : c ≤ length ps) (lv : c ≤ length vs) (bs : all_below (length w) (take c ps) ≡ true)
    (ds : distinct (take c ps) ≡ true) (W : Written c ps vs es w u k i) (h : 0 < i) (p : ℕ) (ep : p ≡ get_or ps (i - 1) 0) where
  -- p is the next place, and v what is written there
  abbrev v : ℕ
  v = get_or vs (i - 1) 0

  pub written_below : p < length u
  written_below = omega (arith, ep, written-size W, place-below (length w) c ps vs lp lv bs i h W.within)

  next : (ys : List ℕ) → c ≤ length ys → drop (i - 1) (take c ys) ≡ get_or ys (i - 1) 0 ∷ drop i (take c ys)
  next = part (length w) c ps vs lp lv bs i h W.within

  next_place : drop (i - 1) (take c ps) ≡ p ∷ drop i (take c ps)
  next_place = next ps lp ∙ ap (λ (q : ℕ). q ∷ drop i (take c ps)) (sym ep)

  still : at u p ≡ at w p
  still =
      ap (λ (x : List ℕ). at x p) W.word
      ∙ fill-other w _ _ p (distinct_head p (drop i (take c ps))
      (subst (λ (ls : List ℕ). distinct ls ≡ true) next_place (distinct-drop (i - 1) (take c ps) ds)))

  module _ (d : ℕ) (e : d ≡ cond (member p es) 0 (differ (at u p) v)) where
    counted : k + d ≡ changes_below (length w) es w (set u p v)
    counted = changes-set (length w) es w u p v k d (omega (arith, written-size W, written_below)) written_below still W.changed e

    pub written-fits : k + d ≤ length w
    written-fits = omega (arith, counted, changes-le es w (set u p v) (length w))

    pub written_on : Written c ps vs es w (set u p v) (k + d) (i - 1)
    unfolding fill
    written_on = record {
      within = omega (arith, W.within);
      word = ap (λ (x : List ℕ). set x p v) W.word ∙ sym (ap₂ (fill w) next_place (next vs lv));
      changed = counted;
    }
