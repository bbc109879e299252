-- The rule of the table of powers: one test that antt computes over the whole table, and a law that turns it into what stands at each
-- exponent. Assumes nothing.
use Rattle.field.proofs.Base.{◌≡◌, sym, ap, ◌∙◌, subst, Bool, true, ◌&&◌, List, [], ◌∷◌, ℕ, zero, suc, ◌+◌, ◌*◌, ◌%◌, ◌<◌, le_of_suc-le-suc}
use Rattle.field.proofs.Base.{not-suc-le-zero, zero-mul, arith, T, eqb, eqb→eq, lit<, length, get_or}
use native.Mathlib.Nat.{zero-add, one-mul}
use Rattle.field.specs.Field.{order, double, product, power, α}
use Rattle.field.specs.inner.Operand.{arithmetic}
use Rattle.field.proofs.Ring.{double-lt, product-assoc, product-comm, product-one-l, product-one-r}
use Rattle.field.proofs.Powers.{one-lt, power_zero, power-suc, power-lt, double-product}
use Rattle.field.proofs.Widths.{field_at, Width.seven}
use Rattle.field.proofs.Steps.{power-mod}
use Rattle.field.proofs.Check.{and_left, and_right}

-- the list begins with x, and each entry after it is the double of the one before
abbrev pub doubling : ℕ → ℕ → List ℕ → Bool
doubling m x [] = true
doubling m x (y ∷ ys) = eqb y x && doubling m (double m y) ys

module _ (m : ℕ) (pos : 0 < m) where
  doubling-from : (x : ℕ) → x < order m → (xs : List ℕ) → T (doubling m x xs) → (k : ℕ) → k < length xs → get_or xs k 0 ≡ product m (power m α k) x
  doubling-from x l [] t k h = absurd (not-suc-le-zero h)
  doubling-from x l (y ∷ ys) t zero h =
      eqb→eq y x (and_left (eqb y x) (doubling m (double m y) ys) t)
      ∙ sym (product-one-l m x l) ∙ ap (λ (z : ℕ). product m z x) (sym (power_zero m α))
  doubling-from x l (y ∷ ys) t (suc k) h =
      doubling-from (double m y) (double-lt m y ly) ys (and_right (eqb y x) (doubling m (double m y) ys) t) k (le_of_suc-le-suc h)
      ∙ ap (product m (power m α k)) (double-product m pos y ly)
      ∙ sym (product-assoc m pos (power m α k) α y)
      ∙ ap (λ (z : ℕ). product m z y) (product-comm m (power m α k) α ∙ sym (power-suc m α k))
      ∙ ap (product m (power m α (suc k))) y-x
    where
      y-x : y ≡ x
      y-x = eqb→eq y x (and_left (eqb y x) (doubling m (double m y) ys) t)

      ly : y < order m
      ly = subst (λ (z : ℕ). z < order m) (sym y-x) l

  -- the doubling rule, carried to each exponent
  pub doubling-at : (xs : List ℕ) → T (doubling m 1 xs) → (k : ℕ) → k < length xs → get_or xs k 0 ≡ power m α k
  doubling-at xs t k h = doubling-from 1 (one-lt m pos) xs t k h ∙ product-one-r m (power m α k) (power-lt m pos α k)

-- the entries of the table of width 7
unfoldable pub powers : List ℕ
powers =
    1 ∷ 2 ∷ 4 ∷ 8 ∷ 16 ∷ 32 ∷ 64 ∷ 9 ∷ 18 ∷ 36 ∷ 72 ∷ 25 ∷ 50 ∷ 100 ∷ 65 ∷ 11 ∷ 22 ∷ 44 ∷ 88 ∷ 57 ∷ 114 ∷ 109 ∷ 83 ∷ 47 ∷ 94 ∷ 53 ∷ 106 ∷ 93 ∷ 51 ∷ 102 ∷ 69 ∷ 3 ∷
    6 ∷ 12 ∷ 24 ∷ 48 ∷ 96 ∷ 73 ∷ 27 ∷ 54 ∷ 108 ∷ 81 ∷ 43 ∷ 86 ∷ 37 ∷ 74 ∷ 29 ∷ 58 ∷ 116 ∷ 97 ∷ 75 ∷ 31 ∷ 62 ∷ 124 ∷ 113 ∷ 107 ∷ 95 ∷ 55 ∷ 110 ∷ 85 ∷ 35 ∷ 70 ∷ 5 ∷ 10 ∷
    20 ∷ 40 ∷ 80 ∷ 41 ∷ 82 ∷ 45 ∷ 90 ∷ 61 ∷ 122 ∷ 125 ∷ 115 ∷ 111 ∷ 87 ∷ 39 ∷ 78 ∷ 21 ∷ 42 ∷ 84 ∷ 33 ∷ 66 ∷ 13 ∷ 26 ∷ 52 ∷ 104 ∷ 89 ∷ 59 ∷ 118 ∷ 101 ∷ 67 ∷ 15 ∷ 30 ∷ 60 ∷
    120 ∷ 121 ∷ 123 ∷ 127 ∷ 119 ∷ 103 ∷ 71 ∷ 7 ∷ 14 ∷ 28 ∷ 56 ∷ 112 ∷ 105 ∷ 91 ∷ 63 ∷ 126 ∷ 117 ∷ 99 ∷ 79 ∷ 23 ∷ 46 ∷ 92 ∷ 49 ∷ 98 ∷ 77 ∷ 19 ∷ 38 ∷ 76 ∷ 17 ∷ 34 ∷ 68 ∷ 1 ∷
    2 ∷ 4 ∷ 8 ∷ 16 ∷ 32 ∷ 64 ∷ 9 ∷ 18 ∷ 36 ∷ 72 ∷ 25 ∷ 50 ∷ 100 ∷ 65 ∷ 11 ∷ 22 ∷ 44 ∷ 88 ∷ 57 ∷ 114 ∷ 109 ∷ 83 ∷ 47 ∷ 94 ∷ 53 ∷ 106 ∷ 93 ∷ 51 ∷ 102 ∷ 69 ∷ 3 ∷ 6 ∷
    12 ∷ 24 ∷ 48 ∷ 96 ∷ 73 ∷ 27 ∷ 54 ∷ 108 ∷ 81 ∷ 43 ∷ 86 ∷ 37 ∷ 74 ∷ 29 ∷ 58 ∷ 116 ∷ 97 ∷ 75 ∷ 31 ∷ 62 ∷ 124 ∷ 113 ∷ 107 ∷ 95 ∷ 55 ∷ 110 ∷ 85 ∷ 35 ∷ 70 ∷ 5 ∷ 10 ∷ 20 ∷
    40 ∷ 80 ∷ 41 ∷ 82 ∷ 45 ∷ 90 ∷ 61 ∷ 122 ∷ 125 ∷ 115 ∷ 111 ∷ 87 ∷ 39 ∷ 78 ∷ 21 ∷ 42 ∷ 84 ∷ 33 ∷ 66 ∷ 13 ∷ 26 ∷ 52 ∷ 104 ∷ 89 ∷ 59 ∷ 118 ∷ 101 ∷ 67 ∷ 15 ∷ 30 ∷ 60 ∷ 120 ∷
    121 ∷ 123 ∷ 127 ∷ 119 ∷ 103 ∷ 71 ∷ 7 ∷ 14 ∷ 28 ∷ 56 ∷ 112 ∷ 105 ∷ 91 ∷ 63 ∷ 126 ∷ 117 ∷ 99 ∷ 79 ∷ 23 ∷ 46 ∷ 92 ∷ 49 ∷ 98 ∷ 77 ∷ 19 ∷ 38 ∷ 76 ∷ 17 ∷ 34 ∷ 68 ∷ []

rule : T (doubling 7 1 powers)
unfolding powers arithmetic
rule = tt

pub powers-at : (k : ℕ) → k < 254 → get_or powers k 0 ≡ power 7 α k
unfolding powers
powers-at k h = doubling-at 7 (lit< tt) powers rule k h

-- at an exponent modulo 127
powers-mod : (k : ℕ) → get_or powers (k % 127) 0 ≡ power 7 α k
powers-mod k = powers-at (k % 127) (omega arith) ∙ power-mod 7 (field_at seven) k

-- the powers at e, and at 1 to 4 times i more
pub powers-from : (e i : ℕ) → e < 127
    → ◌≡◌ {A = List ℕ}
    (get_or powers e 0 ∷ get_or powers ((i + e) % 127) 0 ∷ get_or powers ((2 * i + e) % 127) 0 ∷ get_or powers ((3 * i + e) % 127) 0
    ∷ get_or powers ((4 * i + e) % 127) 0 ∷ [])
    (power 7 α (0 * i + e) ∷ power 7 α (1 * i + e) ∷ power 7 α (2 * i + e) ∷ power 7 α (3 * i + e) ∷ power 7 α (4 * i + e) ∷ [])
powers-from e i h =
    simp (zero-mul, one-mul, zero-add, powers-at e (omega arith), powers-mod (i + e), powers-mod (2 * i + e), powers-mod (3 * i + e), powers-mod (4 * i + e))
