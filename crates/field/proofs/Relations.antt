-- The law of the sums by folds, `fold-top`: where the power a of α^d is the sum of the powers b of a list, the last number of a row, at place
-- t + a, may be added at each place t + b instead, and the row is one shorter. It holds for every value of the numbers that takes sums to
-- sums, so for numbers of eight, four, two lanes and one, and for every list: y^7 = y^3 + 1 has two places, y^8 = y^7 + y^4 + 1 three. What
-- is asked of the relation is that it holds at α^d, where d is the exponent of the sum times the lanes of a number. Assumes nothing.
use Rattle.field.proofs.Base.{◌≡◌, refl, sym, ap, ap₂, ◌∙◌, subst, List, [], ◌∷◌, ℕ, zero, suc, ◌+◌, ◌-◌, ◌*◌, ◌≤◌, ◌<◌, not-suc-le-zero}
use Rattle.field.proofs.Base.{ℕ_discrete, le_refl, add-one, arith, length, set, length-set, take, take_all, drop, drop-cons, drop_of_length-le}
use Rattle.field.proofs.Base.{get_or-set_same, get_or-set_other}
use Rattle.field.specs.Polynomial.{add}
use Rattle.field.specs.Field.{product, power, α}
use Rattle.field.specs.inner.Operand.{arithmetic}
use Rattle.field.proofs.Widths.{doubles, doubles-power}
use Rattle.field.specs.Sum.{at, sum}
use Rattle.field.specs.inner.Folds.{Additive, powers, Obeys, Seventh, Eighth, value_total}
use Rattle.field.proofs.Sums.{sum-suc, sum-cong}
use Rattle.field.proofs.Lanewise.{F}
use Rattle.field.proofs.Folding.{power-apply}

-- what the number of value x at place p counts
abbrev pub term : ℕ → ℕ → ℕ → ℕ
term d p x = product 7 (power 7 α (d * p)) x

-- what a number of value x counts at the places t + b together
abbrev pub spread : ℕ → ℕ → ℕ → List ℕ → ℕ
spread d t x bs = product 7 (power 7 α (d * t)) (product 7 (powers d bs) x)

spread-none : (d t x : ℕ) → spread d t x [] ≡ 0
unfolding powers
spread-none d t x = ap (product 7 (power 7 α (d * t))) (F.zero-product x) ∙ F.product-zero _

spread-more : (d t x b : ℕ) (bs : List ℕ) → add (term d (t + b) x) (spread d t x bs) ≡ spread d t x (b ∷ bs)
unfolding powers
spread-more d t x b bs =
    ap (λ (y : ℕ). add y (spread d t x bs)) (ap (λ (e : ℕ). product 7 (power 7 α e) x) exponent ∙ power-apply (d * t) (d * b) x)
    ∙ F.add_comm _ _
    ∙ sym (F.product-add _ _ _) ∙ ap (product 7 (power 7 α (d * t))) (sym (F.add-product _ _ x))
  where
    exponent : d * (t + b) ≡ d * t + d * b
    exponent = omega arith

-- ---- a number x added to the one at place p, and to those at the places t + b

abbrev pub put : ℕ → ℕ → List ℕ → List ℕ
put p x ws = set ws p (add (at ws p) x)

pub puts : ℕ → ℕ → List ℕ → List ℕ → List ℕ
puts t x [] ws = ws
puts t x (b ∷ bs) ws = puts t x bs (put (t + b) x ws)

-- the places from j on: the one at j, then the rest; past the last none
pub puts-next : (t x j : ℕ) (bs ws : List ℕ) → j < length bs
    → puts t x (drop (j + 1) bs) (put (t + at bs j) x ws) ≡ puts t x (drop j bs) ws
unfolding puts
puts-next t x j bs ws h = rw (add-one, drop-cons bs j 0 h)

pub puts-none : (t x j : ℕ) (bs ws : List ℕ) → length bs ≤ j → puts t x (drop j bs) ws ≡ ws
unfolding puts
puts-none t x j bs ws h = rw (drop_of_length-le bs h)

-- each listed is below n
abbrev pub Within : ℕ → List ℕ → Type 0
Within n bs = (i : ℕ) → i < length bs → at bs i < n

-- the numbers from n on are 0
abbrev pub Cleared : ℕ → List ℕ → Type 0
Cleared n ws = (i : ℕ) → n ≤ i → at ws i ≡ 0

pub cleared-more : (n : ℕ) (ws : List ℕ) → n < length ws → Cleared (suc n) ws → Cleared n (set ws n 0)
cleared-more n ws l h i m = go (ℕ_discrete i n)
  where
    go : Dec (i ≡ n) → at (set ws n 0) i ≡ 0
    go (yes e) = ap (at (set ws n 0)) e ∙ get_or-set_same ws n 0 0 l
    go (no e) = get_or-set_other ws n i 0 0 e ∙ h i (omega (arith, e))

pub cleared-stay : (n p x : ℕ) (ws : List ℕ) → p < n → Cleared n ws → Cleared n (set ws p x)
cleared-stay n p x ws l h i m = get_or-set_other ws p i x 0 (λ e. omega arith) ∙ h i m

module _ (v : ℕ → ℕ) (additive : Additive v) (d : ℕ) where
  total-before : (n p y : ℕ) (ws : List ℕ) → n ≤ p → value_total v d n (set ws p y) ≡ value_total v d n ws
  total-before n p y ws h =
      sum-cong n _ _ (λ i l. ap (λ (z : ℕ). term d i (v z)) (get_or-set_other ws p i y 0 (λ e. omega arith)))

  total-added : (n p x : ℕ) (ws : List ℕ) → p < n → p < length ws
      → value_total v d n (set ws p (add (at ws p) x)) ≡ add (value_total v d n ws) (term d p (v x))
  unfolding sum
  total-added zero p x ws h l = absurd (not-suc-le-zero h)
  total-added (suc n) p x ws h l = go (ℕ_discrete n p) (λ q. total-added n p x ws q l)
    where
      y : ℕ
      y = add (at ws p) x

      here : n ≡ p → term d n (v (at (set ws p y) n)) ≡ add (term d n (v (at ws n))) (term d p (v x))
      here e =
          ap (λ (z : ℕ). term d n (v z)) (ap (at (set ws p y)) e ∙ get_or-set_same ws p y 0 l ∙ ap (λ (z : ℕ). add (at ws z) x) (sym e))
          ∙ ap (term d n) (additive (at ws n) x) ∙ F.product-add _ _ _
          ∙ ap (λ (z : ℕ). add (term d n (v (at ws n))) (term d z (v x))) e

      go : Dec (n ≡ p) → (p < n → value_total v d n (set ws p y) ≡ add (value_total v d n ws) (term d p (v x)))
          → value_total v d (suc n) (set ws p y) ≡ add (value_total v d (suc n) ws) (term d p (v x))
      go (yes e) g = ap₂ add (total-before n p y ws (omega arith)) (here e) ∙ sym (F.add_assoc _ _ _)
      go (no e) g =
          ap₂ add (g (omega (arith, e))) (ap (λ (z : ℕ). term d n (v z)) (get_or-set_other ws p n y 0 e))
          ∙ F.add_assoc _ _ _ ∙ ap (add (value_total v d n ws)) (F.add_comm _ _) ∙ sym (F.add_assoc _ _ _)

  total-puts : (n t x : ℕ) (bs ws : List ℕ) → Within (n - t) bs → n ≤ length ws
      → value_total v d n (puts t x bs ws) ≡ add (value_total v d n ws) (spread d t (v x) bs)
  unfolding puts
  total-puts n t x [] ws h l = sym (ap (add (value_total v d n ws)) (spread-none d t (v x)) ∙ F.add-zero _)
  total-puts n t x (b ∷ bs) ws h l =
      total-puts n t x bs (put (t + b) x ws) (λ i k. h (suc i) (omega arith)) (omega (arith, length-set ws (t + b) (add (at ws (t + b)) x)))
      ∙ ap (λ (y : ℕ). add y (spread d t (v x) bs)) (total-added n (t + b) x ws below (omega (arith, below)))
      ∙ F.add_assoc _ _ _ ∙ ap (add (value_total v d n ws)) (spread-more d t (v x) b bs)
    where
      below : t + b < n
      below = omega (arith, h 0 (omega arith))

  -- a row whose sum below n is that of ws, and what the number of ws at place n counts at the places of the relation, has the sum of ws up to n
  pub fold-spread : (a t n j : ℕ) (bs ws us : List ℕ) → Obeys a bs d → t + a ≡ n → j ≡ length bs
      → value_total v d n us ≡ add (value_total v d n (set ws n 0)) (spread d t (v (at ws n)) (take j bs))
      → value_total v d n us ≡ value_total v d (suc n) ws
  fold-spread a t n j bs ws us r h q e =
      e
      ∙ ap₂ add (total-before n n 0 ws (omega arith))
      (ap (spread d t (v (at ws n))) (ap (λ (k : ℕ). take k bs) q ∙ take_all (length bs) bs (le_refl (length bs)))
      ∙ ap (λ (y : ℕ). product 7 (power 7 α (d * t)) (product 7 y (v (at ws n)))) (sym r)
      ∙ sym (power-apply (d * t) (d * a) (v (at ws n))) ∙ ap (λ (x : ℕ). product 7 (power 7 α x) (v (at ws n))) exponent)
      ∙ sym (sum-suc n (λ i. term d i (v (at ws i))))
    where
      exponent : d * t + d * a ≡ d * n
      exponent = omega (arith, ap (λ (x : ℕ). d * x) h)

  -- THE LAW: the last number goes to the places of the relation
  pub fold-top : (a t : ℕ) (bs ws : List ℕ) → Obeys a bs d → Within a bs → t + a < length ws
      → value_total v d (t + a) (puts t (at ws (t + a)) bs ws) ≡ value_total v d (suc (t + a)) ws
  fold-top a t bs ws r h l =
      fold-spread a t (t + a) (length bs) bs ws (puts t (at ws (t + a)) bs ws) r refl refl
      (total-puts (t + a) t (at ws (t + a)) bs ws (subst (λ (n : ℕ). Within n bs) size h) (omega arith)
      ∙ ap₂ add (sym (total-before (t + a) (t + a) 0 ws (omega arith)))
      (ap (spread d t (v (at ws (t + a)))) (sym (take_all (length bs) bs (le_refl (length bs))))))
    where
      size : a ≡ t + a - t
      size = omega arith

  -- as the code has it: the last number, at place n, is put to 0 first
  pub fold-cleared : (a t n : ℕ) (bs ws : List ℕ) → Obeys a bs d → Within a bs → t + a ≡ n → n < length ws
      → value_total v d n (puts t (at ws n) bs (set ws n 0)) ≡ value_total v d (suc n) ws
  fold-cleared a t n bs ws r h e l =
      total-puts n t (at ws n) bs (set ws n 0) within (omega (arith, length-set ws n 0))
      ∙ ap (λ (y : ℕ). add y (spread d t (v (at ws n)) bs)) (total-before n n 0 ws (omega arith))
      ∙ sym (total-puts n t (at ws n) bs ws within (omega arith))
      ∙ subst (λ (m : ℕ). value_total v d m (puts t (at ws m) bs ws) ≡ value_total v d (suc m) ws) e (fold-top a t bs ws r h (omega arith))
    where
      size : a ≡ n - t
      size = omega arith

      within : Within (n - t) bs
      within = subst (λ (m : ℕ). Within m bs) size h

  -- a number that is 0 counts nothing
  zero-value : v 0 ≡ 0
  zero-value = ap v (sym (F.add-self 0)) ∙ additive 0 0 ∙ F.add-self (v 0)

  -- nor do the k numbers after the first n, where they are all 0
  pub total-zeros : (n k : ℕ) (ws : List ℕ) → Cleared n ws → value_total v d (k + n) ws ≡ value_total v d n ws
  total-zeros n zero ws h = ap (λ (x : ℕ). value_total v d x ws) (omega arith)
  total-zeros n (suc k) ws h =
      ap (λ (x : ℕ). value_total v d x ws) next
      ∙ sum-suc (k + n) (λ i. term d i (v (at ws i)))
      ∙ ap₂ add (total-zeros n k ws h) (ap (term d (k + n)) (ap v (h (k + n) (omega arith)) ∙ zero-value) ∙ F.product-zero _)
      ∙ F.add-zero _
    where
      next : suc k + n ≡ suc (k + n)
      next = omega arith

-- ---- the relations hold where they are used: by computing the powers

doubled : ℕ → List ℕ → ℕ
doubled d [] = 0
doubled d (b ∷ bs) = add (doubled d bs) (doubles 7 (d * b))

computed : (d a : ℕ) (bs : List ℕ) → doubles 7 (d * a) ≡ doubled d bs → Obeys a bs d
unfolding doubled powers
computed d a bs q = sym (by-doubles (d * a)) ∙ q ∙ same bs
  where
    by-doubles : (k : ℕ) → doubles 7 k ≡ power 7 α k
    by-doubles = doubles-power 7 F.positive

    same : (bs : List ℕ) → doubled d bs ≡ powers d bs
    same [] = refl
    same (b ∷ bs) = ap₂ add (same bs) (by-doubles (d * b))

seventh : (d : ℕ) → doubles 7 (d * 7) ≡ doubled d (3 ∷ 0 ∷ []) → Seventh d
seventh d = computed d 7 (3 ∷ 0 ∷ [])

eighth : (d : ℕ) → doubles 7 (d * 8) ≡ doubled d (7 ∷ 4 ∷ 0 ∷ []) → Eighth d
eighth d = computed d 8 (7 ∷ 4 ∷ 0 ∷ [])

-- α and its conjugates
pub conjugates : Seventh 1 × Seventh 2 × Seventh 4 × Seventh 8 × Seventh 16 × Seventh 32
unfolding arithmetic doubles doubled
conjugates = (seventh 1 refl, seventh 2 refl, seventh 4 refl, seventh 8 refl, seventh 16 refl, seventh 32 refl)

-- 1, and α^3 and its conjugates
pub cubes : Eighth 0 × Eighth 3 × Eighth 6 × Eighth 12 × Eighth 24
unfolding arithmetic doubles doubled
cubes = (eighth 0 refl, eighth 3 refl, eighth 6 refl, eighth 12 refl, eighth 24 refl)
