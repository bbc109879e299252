-- Loops over lists, each by what holds before a turn and a law for each way on and out: copying, filling an array, looking at one number
-- after the other. Parts of a list from some place on. Assumes nothing.
use Rattle.field.proofs.Base.{◌≡◌, refl, sym, ap, ap₂, ◌∙◌, subst, List, [], ◌∷◌, ◌++◌, append-nil, ℕ, zero, suc, ◌+◌, ◌-◌, ◌≤◌, ◌<◌}
use Rattle.field.proofs.Base.{le_refl, le_of_suc-le-suc, not-suc-le-zero, add-zero, add-one, arith, length, get_or, set, take, drop, length-set, length-drop}
use Rattle.field.proofs.Base.{drop_of_length-le, take_all, take_at, get_or-set_same, get_or-set_other, ext_get_or}
use borrow.Author.Count.{below_more}
use Rattle.code.specs.inner.Block.{Run}

-- ---- copying the list s over the list d of the same length: after i turns d is `take i s ++ drop i d`

copy-suc : (d s : List ℕ) (i : ℕ) → i < length s → i < length d → set (take i s ++ drop i d) i (get_or s i 0) ≡ take (suc i) s ++ drop (suc i) d
copy-suc d [] i h l = absurd (not-suc-le-zero h)
copy-suc [] (y ∷ s) i h l = absurd (not-suc-le-zero l)
copy-suc (x ∷ d) (y ∷ s) zero h l = refl
copy-suc (x ∷ d) (y ∷ s) (suc i) h l = ap (λ (t : List ℕ). y ∷ t) (copy-suc d s i (le_of_suc-le-suc h) (le_of_suc-le-suc l))

module _ (d s t : List ℕ) (i : ℕ) (e : t ≡ take i s ++ drop i d) where
  pub copy-on : i < length s → length d ≡ length s → set t i (get_or s i 0) ≡ take (i + 1) s ++ drop (i + 1) d
  copy-on h l =
      ap (λ (u : List ℕ). set u i (get_or s i 0)) e
      ∙ subst (λ (k : ℕ). set (take i s ++ drop i d) i (get_or s i 0) ≡ take k s ++ drop k d) (sym (add-one i)) (copy-suc d s i h (omega arith))

  pub copy-end : length s ≤ i → length d ≡ length s → t ≡ s
  copy-end h l =
      e ∙ ap (λ (u : List ℕ). take i s ++ u) (drop_of_length-le d {i = i} (omega arith)) ∙ append-nil (take i s) ∙ take_all i s h

-- ---- parts of a list

-- the part from n on is the rest of the list
pub part-drop : (n : ℕ) (w : List ℕ) → take (length w - n) (drop n w) ≡ drop n w
part-drop n w = take_all (length w - n) (drop n w) (simp length-drop (omega arith))

-- the first n bytes of w written, and then the rest
pub two-parts : (n : ℕ) (w p d a b : List ℕ) → a ≡ p → b ≡ d → length p ≡ n
    → take n (a ++ drop n w) ++ (b ++ drop (length (a ++ drop n w) - n) (drop n (a ++ drop n w))) ≡ p ++ d
two-parts n w p d a b ea eb l =
    let e : length a ≡ n = ap length ea ∙ l in
    ap₂ ◌++◌
    (take_at a (drop n w) n e ∙ ea)
    (ap (λ (u : List ℕ). b ++ u) (drop_of_length-le (drop n (a ++ drop n w)) {i = length (a ++ drop n w) - n} (simp length-drop (le_refl _)))
    ∙ append-nil b ∙ eb)

-- ---- filling an array of n entries: out is f so far, provided that H

pub record Filled (A : Type 0) (d : A) (n : ℕ) (H : Type 0) (f : ℕ → A) (out : List A) (i : ℕ) : Type 0 where
  pub below : i ≤ n
  pub long : length out ≡ n
  pub same : H → (k : ℕ) → k < i → get_or out k d ≡ f k

module _ {A : Type 0} {d : A} {n : ℕ} {H : Type 0} {f : ℕ → A} {out : List A} {i : ℕ} (g : Filled A d n H f out i) where
  pub filled_on : i < n → {x : A} → (H → x ≡ f i) → Filled A d n H f (set out i x) (i + 1)
  filled_on l {x} e =
      record {
        below = omega arith;
        long = length-set out i x ∙ g.long;
        same = λ h. below_more _ i
            (λ k b. get_or-set_other out i k x d (omega arith) ∙ g.same h k b)
            (get_or-set_same out i x d (omega (arith, g.long)) ∙ e h);
      }

  pub filled-end : n ≤ i → H → (xs : List A) → length xs ≡ n → ((k : ℕ) → k < n → get_or xs k d ≡ f k) → out ≡ xs
  filled-end l h xs e s =
      ext_get_or d out xs (g.long ∙ sym e) (λ k b. g.same h k (omega (arith, g.long)) ∙ sym (s k (omega (arith, g.long))))

-- ---- looking at the numbers from r on: P holds of each before i

abbrev pub Sought : (ℕ → Type 0) → ℕ → ℕ → Type 0
Sought P r i = (k : ℕ) → r ≤ k → k < i → P k

pub sought-start : (P : ℕ → Type 0) (r : ℕ) → Sought P r r
sought-start P r k l b = absurd (omega arith)

pub sought-on : (P : ℕ → Type 0) (r i : ℕ) → Sought P r i → P i → Sought P r (i + 1)
sought-on P r i h p k l b = below_more (λ (k : ℕ). r ≤ k → P k) i (λ k b l. h k l b) (λ l. p) k b l

-- ---- a run of places is passed at once: what each place passed carries on holds at the end

pub run_on : (P Q : ℕ → Type 0) (i n r : ℕ) → ((p : ℕ) → p < n → Q p → P p → P (p + 1)) → Run Q i n r → P i → P r
run_on P Q i n r step a start =
    let e : i + (r - i) ≡ r = omega (arith, a.on) in
    subst P e (go (r - i) (omega arith))
  where
    go : (d : ℕ) → i + d ≤ r → P (i + d)
    go zero h = rw add-zero start
    go (suc d) h = subst P (one d) (step (i + d) (omega (arith, a.within)) (a.each (i + d) (omega arith) (omega arith)) (go d (omega arith)))
      where
        one : (d : ℕ) → i + d + 1 ≡ i + suc d
        one d = omega arith
