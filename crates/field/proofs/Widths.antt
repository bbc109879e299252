-- The widths 3, 4, 5 and 7 are fields: α generates the symbols other than 0, by tests that antt computes at each width over the powers of α
-- by doubling. Assumes nothing.
use Rattle.field.proofs.Base.{◌≡◌, refl, sym, ap, ◌∙◌, subst, ◌≢◌, Bool, true, false, not, ◌&&◌, ◌||◌, false≢true, ℕ, zero, suc, ◌-◌, ◌%◌, ◌<◌}
use Rattle.field.proofs.Base.{◌≤◌, arith, T, eqb, leb, ltb, eqb→eq, eqb-true}
use lib.Dec.{leb→le, ltb→lt, T_not}
use Rattle.field.specs.Field.{order, double, power, α}
use Rattle.field.specs.inner.Operand.{arithmetic}
use Rattle.field.specs.Question.{is_width}
use Rattle.field.proofs.Powers.{power_zero, power-suc, power-lt, double-product}
use Rattle.field.proofs.Laws.{Generates, IsField, is_field, CubeInjective, cubes}
use Rattle.field.proofs.Check.{and_left, and_right, or_right, all, all-at}

-- a power of α, by doubling 1
unfoldable pub doubles : ℕ → ℕ → ℕ
doubles m zero = 1
doubles m (suc k) = double m (doubles m k)

module _ (m : ℕ) (pos : 0 < m) where
  pub doubles-power : (k : ℕ) → doubles m k ≡ power m α k
  unfolding doubles
  doubles-power zero = sym (power_zero m α)
  doubles-power (suc k) =
      ap (double m) (doubles-power k) ∙ double-product m pos (power m α k) (power-lt m pos α k) ∙ sym (power-suc m α k)

-- how often x is doubled to make a, if fewer than n times
unfoldable doublings : ℕ → ℕ → ℕ → ℕ → ℕ
doublings m a x zero = zero
doublings m a x (suc n) = elim (eqb x a) [ true ↦ zero | false ↦ suc (doublings m a (double m x) n) ]

-- the exponent of α at which its power is a, by search
abbrev exponent_of : ℕ → ℕ → ℕ
exponent_of m a = doublings m a 1 (order m)

generated : ℕ → ℕ → Bool
generated m a = eqb a 0 || (ltb (exponent_of m a) (order m - 1) && eqb (doubles m (exponent_of m a)) a)

not_one : ℕ → ℕ → Bool
not_one m k = eqb k 0 || not (eqb (doubles m k) 1)

-- what is computed at a width; a symbol is a byte below 128
record Computed (m : ℕ) : Type 0 where
  wide : T (ltb 1 m)
  small : T (leb (order m) 128)
  cycle : T (eqb (doubles m (order m - 1)) 1)
  least : T (all (not_one m) (order m - 1))
  exponent : T (all (generated m) (order m))

generates : (m : ℕ) → Computed m → Generates m
unfolding not_one generated
generates m c =
    record {
      wide = wide;
      cycle = sym (powers (order m - 1)) ∙ eqb→eq (doubles m (order m - 1)) 1 c.cycle;
      least = λ k p h e. T_not (eqb (doubles m k) 1)
          (or_right (eqb k 0) (not (eqb (doubles m k) 1)) (all-at (not_one m) (order m - 1) c.least k h) (λ t. zero-not k p (eqb→eq k 0 t)))
          (subst (λ (x : ℕ). T (eqb x 1)) (sym (powers k ∙ e)) tt);
      exponent = λ a n h. record {
        exponent = exponent_of m a;
        below = ltb→lt (exponent_of m a) (order m - 1) (and_left (small a) (right a) (found a n h));
        is-power = sym (powers (exponent_of m a)) ∙ eqb→eq (doubles m (exponent_of m a)) a (and_right (small a) (right a) (found a n h));
      };
    }
  where
    wide : 1 < m
    wide = ltb→lt 1 m c.wide

    powers : (k : ℕ) → doubles m k ≡ power m α k
    powers = doubles-power m (omega (arith, wide))

    zero-not : (k : ℕ) → 0 < k → k ≡ 0 → ⊥
    zero-not k p e = omega arith

    small : ℕ → Bool
    small a = ltb (exponent_of m a) (order m - 1)

    right : ℕ → Bool
    right a = eqb (doubles m (exponent_of m a)) a

    found : (a : ℕ) → a ≢ 0 → a < order m → T (small a && right a)
    found a n h = or_right (eqb a 0) (small a && right a) (all-at (generated m) (order m) c.exponent a h) (λ t. n (eqb→eq a 0 t))

-- the widths, one by one
pub data Width : ℕ → Type 0 where
  three : Width 3
  four : Width 4
  five : Width 5
  seven : Width 7

computed : {m : ℕ} → Width m → Computed m
unfolding arithmetic doubles doublings not_one generated
computed three = record { wide = tt; small = tt; cycle = tt; least = tt; exponent = tt }
computed four = record { wide = tt; small = tt; cycle = tt; least = tt; exponent = tt }
computed five = record { wide = tt; small = tt; cycle = tt; least = tt; exponent = tt }
computed seven = record { wide = tt; small = tt; cycle = tt; least = tt; exponent = tt }

pub field_at : {m : ℕ} → Width m → IsField m
field_at w = is_field _ (generates _ (computed w))

-- question 1 admits these widths alone
pub width_of : (m : ℕ) → is_width m ≡ true → Width m
width_of m h = go (eqb m 3) (eqb m 4) (eqb m 5) (eqb m 7) refl refl refl refl h
  where
    go : (a b c d : Bool) → eqb m 3 ≡ a → eqb m 4 ≡ b → eqb m 5 ≡ c → eqb m 7 ≡ d → (a || b || c || d) ≡ true → Width m
    go true b c d x y z w h = subst Width (sym (eqb-true m 3 x)) three
    go false true c d x y z w h = subst Width (sym (eqb-true m 4 y)) four
    go false false true d x y z w h = subst Width (sym (eqb-true m 5 z)) five
    go false false false true x y z w h = subst Width (sym (eqb-true m 7 w)) seven
    go false false false false x y z w h = absurd (false≢true h)

module _ (m : ℕ) (h : is_width m ≡ true) where
  pub field_of : IsField m
  field_of = field_at (width_of m h)

  -- cubing is one to one at the odd ones alone: at width 4 three symbols have the cube 1
  pub cubes-of : m % 2 ≡ 1 → CubeInjective m
  cubes-of = cubes m (generates m (computed (width_of m h)))

  pub order_small : order m ≤ 128
  order_small = leb→le (order m) 128 (computed (width_of m h)).small
