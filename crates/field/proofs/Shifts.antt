-- Products with the first powers of α by shifts: one test that antt computes at each width, over all symbols. Assumes nothing.
use Rattle.field.proofs.Base.{◌≡◌, sym, ap, ◌∙◌, subst, Bool, true, not, ◌&&◌, ◌||◌, ℕ, ◌+◌, ◌-◌, ◌*◌, ◌/◌, ◌%◌, ◌^◌, ◌≤◌, ◌<◌, arith, T, eqb}
use Rattle.field.proofs.Base.{leb, eqb→eq}
use lib.Bits.{bit_and}
use lib.Dec.{eqb_refl, le→leb, T_not}
use Rattle.field.specs.Polynomial.{add}
use Rattle.field.specs.Field.{order, polynomial, product, power, α}
use Rattle.field.specs.inner.Operand.{arithmetic}
use Rattle.field.specs.Question.{is_width}
use Rattle.field.proofs.Widths.{Width, Width.three, Width.four, Width.five, Width.seven, width_of, field_of, doubles, doubles-power}
use Rattle.field.proofs.Check.{or_right, and_both, all, all-at}

-- what the code makes of a: the digits that stay, moved up by k, and the k digits that leave, at x^0 and at x^d
abbrev pub wrapped : ℕ → ℕ → ℕ → ℕ → ℕ
wrapped m d a k = add (add (bit_and (a * 2 ^ k % 256) (127 / 2 ^ (7 - m))) (a / 2 ^ (m - k))) (a / 2 ^ (m - k) * 2 ^ d % 256)

-- the polynomial is x^m + x^d + 1, and k digits moved up by d stay below x^m
has_room : ℕ → ℕ → ℕ → Bool
has_room m d k = eqb (polynomial m) (order m + 2 ^ d + 1) && leb (k + d) m

-- it is the product with the power k of α
multiplies : ℕ → ℕ → ℕ → ℕ → Bool
multiplies m d k a = eqb (wrapped m d a k) (product m (doubles m k) a)

-- for every symbol, where there is room
right : ℕ → ℕ → ℕ → Bool
right m d k = not (has_room m d k) || all (multiplies m d k) (order m)

computed : ℕ → Bool
computed m = all (λ d. all (right m d) 8) 8

computed_at : {m : ℕ} → Width m → T (computed m)
unfolding arithmetic doubles computed right has_room multiplies
computed_at three = tt
computed_at four = tt
computed_at five = tt
computed_at seven = tt

module _ (m : ℕ) (w : is_width m ≡ true) where
  pub wrapped-product : (d a k : ℕ) → m ≤ 7 → a < order m → polynomial m ≡ order m + 2 ^ d + 1 → k + d ≤ m
      → wrapped m d a k ≡ product m (power m α k) a
  unfolding computed right has_room multiplies
  wrapped-product d a k small h e room =
      eqb→eq (wrapped m d a k) (product m (doubles m k) a) (all-at (multiplies m d k) (order m) multiplied a h)
      ∙ ap (λ (x : ℕ). product m x a) (doubles-power m (field_of m w).positive k)
    where
      has : T (has_room m d k)
      has = and_both (eqb (polynomial m) (order m + 2 ^ d + 1)) (leb (k + d) m)
          (subst (λ (x : ℕ). T (eqb (polynomial m) x)) e (eqb_refl (polynomial m))) (le→leb (k + d) m room)

      tested : T (right m d k)
      tested =
          all-at (right m d) 8 (all-at (λ d. all (right m d) 8) 8 (computed_at (width_of m w)) d (omega arith)) k (omega arith)

      multiplied : T (all (multiplies m d k) (order m))
      multiplied = or_right (not (has_room m d k)) (all (multiplies m d k) (order m)) tested (λ n. T_not (has_room m d k) n has)

  -- in two steps
  pub product-twice : (a k r s : ℕ) → 2 ≤ k → r ≡ product m (power m α 2) a → s ≡ product m (power m α (k - 2)) r
      → s ≡ product m (power m α k) a
  product-twice a k r s h er es =
      let F = field_of m w in
      es ∙ ap (product m (power m α (k - 2))) er ∙ sym (F.product-assoc (power m α (k - 2)) (power m α 2) a)
      ∙ ap (λ (x : ℕ). product m x a) (sym (F.power-add α (k - 2) 2) ∙ ap (power m α) (omega arith))
