-- The half-trace is a root of x² + x = c, where there is one: one test that antt computes over the symbols of width 7. Assumes nothing.
use Rattle.field.proofs.Base.{◌≡◌, refl, sym, ap, ap₂, ◌∙◌, ◌⊎◌, inl, inr, Bool, true, false, ◌||◌, ℕ, ◌*◌, ◌%◌, ◌<◌, mod-eq_of_lt, T, eqb}
use Rattle.field.proofs.Base.{eqb→eq}
use Rattle.field.specs.Polynomial.{add}
use Rattle.field.specs.Field.{product, power}
use Rattle.field.specs.inner.Operand.{arithmetic}
use Rattle.field.specs.inner.HalfTrace.{half_trace}
use Rattle.field.proofs.Laws.{IsField}
use Rattle.field.proofs.Widths.{field_of}
use Rattle.field.proofs.Check.{all, all-at}

abbrev F : IsField 7
F = field_of 7 refl

-- ---- by squares, which a test can compute

unfoldable pub fourth : ℕ → ℕ
fourth a = product 7 (product 7 a a) (product 7 a a)

unfoldable pub by_squares : ℕ → ℕ
by_squares c = add (add (add c (fourth c)) (fourth (fourth c))) (fourth (fourth (fourth c)))

fourth-power : (a : ℕ) → a < 128 → power 7 a 4 ≡ fourth a
unfolding fourth
fourth-power a h = F.power-add a 2 2 ∙ ap₂ (product 7) square square
  where
    square : power 7 a 2 ≡ product 7 a a
    square = F.power-suc a 1 ∙ ap (product 7 a) (F.power-one a h)

-- a power with four times the exponent
next_power : (a e : ℕ) → power 7 a (e * 4) ≡ fourth (power 7 a e)
next_power a e = sym (F.power-power a e 4) ∙ fourth-power (power 7 a e) (F.power-lt a e)

pub by-squares : (c : ℕ) → c < 128 → half_trace c ≡ by_squares c
unfolding half_trace by_squares
by-squares c h = ap₂ add (ap₂ add (ap (add c) p4) p16) (next_power c 16 ∙ ap fourth p16)
  where
    p4 : power 7 c 4 ≡ fourth c
    p4 = fourth-power c h

    p16 : power 7 c 16 ≡ fourth (fourth c)
    p16 = next_power c 4 ∙ ap fourth p4

-- ---- a root of x² + x = c

abbrev sum_of : ℕ → ℕ
sum_of y = add (product 7 y y) y

right : ℕ → Bool
right y = eqb (by_squares (sum_of y)) y || eqb (by_squares (sum_of y)) (add y 1)

computed : T (all right 128)
unfolding arithmetic right by_squares fourth
computed = tt

pub half-trace-root : (c h y : ℕ) → h ≡ half_trace (c % 128) → y < 128 → c ≡ add (product 7 y y) y → (h ≡ y) ⊎ (h ≡ add y 1)
unfolding right
half-trace-root c h y eh l ec = go (eqb (by_squares (sum_of y)) y) refl (all-at right 128 computed y l)
  where
    small : sum_of y < 128
    small = F.add-lt _ _ (F.product_lt y y) l

    same : h ≡ by_squares (sum_of y)
    same = eh ∙ ap (λ (n : ℕ). half_trace (n % 128)) ec ∙ ap half_trace (mod-eq_of_lt small) ∙ by-squares (sum_of y) small

    go : (b : Bool) → eqb (by_squares (sum_of y)) y ≡ b → T (b || eqb (by_squares (sum_of y)) (add y 1)) → (h ≡ y) ⊎ (h ≡ add y 1)
    go true e t = inl (same ∙ eqb→eq _ _ (rw e tt))
    go false e t = inr (same ∙ eqb→eq _ _ t)
