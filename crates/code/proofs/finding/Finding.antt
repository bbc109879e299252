-- The places that the search finds are those that the tests name. Assumes nothing.
use Rattle.field.proofs.Base.{◌≡◌, refl, sym, ap, ap₂, ◌∙◌, subst, ◌≢◌, Bool, true, false, cond, ◌||◌, List, [], ◌∷◌, ℕ, zero, suc, ◌+◌, ◌-◌, ◌≤◌}
use Rattle.field.proofs.Base.{◌<◌, le_refl, not-suc-le-zero, ℕ_discrete, dec_lt, arith, eq-eqb, ne_eqb, eqb-true, eqb, get_or}
use Rattle.field.specs.Polynomial.{add}
use Rattle.field.specs.Field.{order, product, power, α}
use Rattle.field.specs.Question.{all_below}
use Rattle.field.proofs.Laws.{IsField}
use Rattle.field.proofs.Below.{below-head}
use Rattle.code.specs.Word.{checks, places}
use Rattle.code.specs.Erasure.{member}
use Rattle.code.proofs.Algebra.{add-of-eq}
use Rattle.code.proofs.Questions.{not-member-head, not-member-tail}
use Rattle.code.proofs.restoring.Extra.{Falling, falling-le}
use Rattle.code.specs.declared.word.Place.{Place}
use Rattle.code.specs.declared.errors.FirstTwo.{FirstTwo}
use Rattle.code.specs.inner.Scan.{value_at, Carried, Rootless, Root, Factored}
use Rattle.code.specs.inner.Locate.{Zeros, point, Ratio, TwoErrors, full, Lists}
use Rattle.code.proofs.finding.Pattern.{falling-out, falling-at}
use Rattle.code.proofs.finding.Locator.{leading, middle, constant, TwoPoints, two-points, leading-nonzero, middle-is, constant-is}
use Rattle.code.proofs.finding.Locating.{column-point, point-distinct}

-- ---- a few places

pub lists-none : Lists (record { count = 0; first = record { 0 = 0 }; second = record { 0 = 0 } }) []
lists-none = record { count = refl; first = refl; second = refl }

pub lists-cons : (f : FirstTwo) (ls : List ℕ) (p : Place) → Lists f ls → Lists (record { count = f.count + 1; first = p; second = f.first }) (p.0 ∷ ls)
lists-cons f ls p L = record { count = omega (arith, L.count); first = refl; second = L.first }

-- a falling list of the places below n at which s is not 0 is the one that is made
pub zeros-full : (s : ℕ → ℕ) (n : ℕ) (ls : List ℕ) → Falling n ls → ((k : ℕ) → k < n → member k ls ≡ false → s k ≡ 0)
    → ((k : ℕ) → k < n → member k ls ≡ true → s k ≢ 0) → ls ≡ full n s
unfolding full
zeros-full s zero [] fall out inn = refl
zeros-full s zero (p ∷ ps) fall out inn = absurd (not-suc-le-zero fall.0)
zeros-full s (suc n) [] fall out inn =
    zeros-full s n [] tt (λ k h o. out k (omega arith) o) (λ k h o. inn k (omega arith) o)
    ∙ sym (ap (λ (t : Bool). cond t (full n s) (n ∷ full n s)) (eq-eqb (s n) 0 (out n (le_refl (suc n)) refl)))
zeros-full s (suc n) (p ∷ ps) fall out inn = go (ℕ_discrete p n) (zeros-full s n (p ∷ ps)) (zeros-full s n ps)
  where
    go : Dec (p ≡ n)
        → (Falling n (p ∷ ps) → ((k : ℕ) → k < n → member k (p ∷ ps) ≡ false → s k ≡ 0) → ((k : ℕ) → k < n → member k (p ∷ ps) ≡ true → s k ≢ 0) → p ∷ ps ≡ full n s)
        → (Falling n ps → ((k : ℕ) → k < n → member k ps ≡ false → s k ≡ 0) → ((k : ℕ) → k < n → member k ps ≡ true → s k ≢ 0) → ps ≡ full n s)
        → p ∷ ps ≡ cond (eqb (s n) 0) (full n s) (n ∷ full n s)
    go (yes e) ih ih' =
        ap₂ ◌∷◌ e (ih' (subst (λ (j : ℕ). Falling j ps) e fall.1)
        (λ k h o. out k (omega arith) (rw (ne_eqb k p (λ f. omega arith)) o))
        (λ k h o. inn k (omega arith) (rw (ne_eqb k p (λ f. omega arith)) o)))
        ∙ sym (ap (λ (t : Bool). cond t (full n s) (n ∷ full n s)) (ne_eqb (s n) 0
        (inn n (le_refl (suc n)) (ap (λ (t : Bool). t || member n ps) (eq-eqb n p (sym e))))))
    go (no d) ih ih' =
        let l : p < suc n = fall.0 in
        ih (omega arith, fall.1) (λ k h o. out k (omega arith) o) (λ k h o. inn k (omega arith) o)
        ∙ sym (ap (λ (t : Bool). cond t (full n s) (n ∷ full n s)) (eq-eqb (s n) 0
        (out n (le_refl (suc n)) (falling-out (suc p) (p ∷ ps) (le_refl (suc p), fall.1) n (omega arith)))))

-- that list falls, its entries are below n, and outside it s is 0
pub full-falling : (s : ℕ → ℕ) (n : ℕ) → Falling n (full n s)
unfolding full
full-falling s zero = tt
full-falling s (suc n) = go (eqb (s n) 0) (full-falling s n)
  where
    go : (t : Bool) → Falling n (full n s) → Falling (suc n) (cond t (full n s) (n ∷ full n s))
    go true d = falling-le n (suc n) (full n s) (omega arith) d
    go false d = (le_refl (suc n), d)

pub full_at : (s : ℕ → ℕ) (n : ℕ) → 0 < n → (i : ℕ) → get_or (full n s) i 0 < n
full_at s n h i = falling-at n (full n s) h (full-falling s n) i

pub full-outside : (s : ℕ → ℕ) (n k : ℕ) → k < n → member k (full n s) ≡ false → s k ≡ 0
unfolding full
full-outside s zero k h o = absurd (not-suc-le-zero h)
full-outside s (suc n) k h o = go (eqb (s n) 0) refl (ℕ_discrete k n) (λ l. full-outside s n k l) o
  where
    go : (t : Bool) → eqb (s n) 0 ≡ t → Dec (k ≡ n) → (k < n → member k (full n s) ≡ false → s k ≡ 0)
        → member k (cond t (full n s) (n ∷ full n s)) ≡ false → s k ≡ 0
    go true e (yes d) ih o = ap s d ∙ eqb-true (s n) 0 e
    go true e (no d) ih o = ih (omega arith) o
    go false e (yes d) ih o = absurd (not-member-head k n (full n s) o d)
    go false e (no d) ih o = ih (omega arith) (not-member-tail k n (full n s) o)

-- it looks at s below n alone
pub full-cong : (n : ℕ) (s t : ℕ → ℕ) → ((k : ℕ) → k < n → s k ≡ t k) → full n s ≡ full n t
unfolding full
full-cong zero s t e = refl
full-cong (suc n) s t e =
    ap₂ (λ (x : ℕ) (xs : List ℕ). cond (eqb x 0) xs (n ∷ xs)) (e n (le_refl (suc n))) (full-cong n s t (λ k h. e k (omega arith)))

-- check places that fall
falling-checks : (n : ℕ) (ls : List ℕ) → Falling n ls → all_below checks ls ≡ true → Falling checks ls
falling-checks n [] fall bs = tt
falling-checks n (p ∷ ps) fall bs = (below-head p ps checks bs, fall.1)

pub zeros-list : (s : ℕ → ℕ) (n : ℕ) (ls : List ℕ) → Falling n ls → all_below checks ls ≡ true → Zeros s ls → ls ≡ full checks s
zeros-list s n ls fall bs Z = zeros-full s checks ls (falling-checks n ls fall bs) Z.outside Z.inside

-- ---- the least root

pub least-root : (m a b c from i : ℕ) → Root m a b c from i → from ≤ i → (q : ℕ) → from ≤ q → value_at m a b c q ≡ 0 → Rootless m a b c from q → i ≡ q
least-root m a b c from i S h q hq z none = go (dec_lt q i) (dec_lt i q)
  where
    go : Dec (q < i) → Dec (i < q) → i ≡ q
    go (yes l) d = absurd (S.before q hq l z)
    go (no l) (yes k) = absurd (none i h k S.root)
    go (no l) (no k) = omega arith

module _ {m : ℕ} (F : IsField m) where
  -- the terms at the exponent 0
  pub carried-start : (a b : ℕ) → a < order m → b < order m → Carried m a b 0 a b
  carried-start a b ha hb = record { square = one a ha; linear = one b hb }
    where
      one : (v : ℕ) → v < order m → v ≡ product m (power m α 0) v
      one v h = sym (ap (λ (n : ℕ). product m n v) (F.power_zero α) ∙ F.one_product v h)

  -- ---- the ratio as a root

  pub linear-value : (b c i : ℕ) → value_at m 0 b c i ≡ add (product m (power m α i) b) c
  linear-value b c i = ap (λ (n : ℕ). add (add n (product m (power m α i) b)) c) (F.product-zero _) ∙ ap (λ (n : ℕ). add n c) (F.zero-add _)

  module _ {s : ℕ → ℕ} {a p : ℕ} {js : List ℕ} (R : Ratio m s a p js) where
    pub ratio-root : value_at m 0 (s a) (s (suc a)) (p - checks) ≡ 0
    ratio-root = linear-value (s a) (s (suc a)) (p - checks) ∙ add-of-eq F _ _ (sym R.multiple)

    pub ratio-only : checks ≤ p → p < places m → (t : ℕ) → t < p - checks → value_at m 0 (s a) (s (suc a)) t ≢ 0
    ratio-only h l t i z =
        let e : power m α t ≡ point m p = F.product-cancel (s a) _ _ R.first R.small (F.power-lt _ _) (F.power-lt _ _)
        (F.product-comm (s a) _ ∙ F.eq-of-add _ _ (sym (linear-value (s a) (s (suc a)) t) ∙ z) ∙ R.multiple ∙ F.product-comm _ (s a)) in
        let f : t ≡ p - checks = F.α-distinct t (p - checks) (omega arith) (omega arith) e in
        omega arith

  -- ---- the locator

  -- where two data places are wrong the locator has their points as roots
  module _ {s : ℕ → ℕ} {p q u v : ℕ} (hq : checks ≤ q) (l : q < p) (lp : p < places m) (T : TwoErrors m s p q u v) where
    pub pair-points : TwoPoints m s (point m p) (point m q) u v
    pair-points = two-points F s (point m p) (point m q) u v T.small.0 T.small.1 (λ k i.
        T.rows k (omega arith)
        ∙ ap₂ add (ap (λ (n : ℕ). product m n u) (column-point F p k (omega arith))) (ap (λ (n : ℕ). product m n v) (column-point F q k hq)))

    pub distinct-points : point m p ≢ point m q
    distinct-points = point-distinct F p q (omega arith) lp hq (omega arith) (λ d. omega arith)

    pub roots-leading : leading m s ≢ 0
    roots-leading =
        leading-nonzero F pair-points (F.power-lt _ _) (F.power-lt _ _) distinct-points T.nonzero.0 T.small.0 T.nonzero.1 T.small.1

    pub roots-factored : Factored m (leading m s) (middle m s) (constant m s) (q - checks) (p - checks)
    roots-factored =
        record {
          leading = roots-leading;
          sum = middle-is F pair-points ∙ ap (λ (n : ℕ). product m n (leading m s)) (F.add_comm _ _);
          both = constant-is F pair-points ∙ ap (λ (n : ℕ). product m n (leading m s)) (F.product-comm _ _);
        }
