-- A rule at every number below a bound, by one test that antt computes. Assumes nothing.
use Rattle.field.proofs.Base.{◌≡◌, sym, subst, Bool, true, false, ◌&&◌, ◌||◌, ℕ, zero, suc, ◌<◌, not-suc-le-zero, ℕ_discrete, arith, T}

pub and_left : (a b : Bool) → T (a && b) → T a
and_left true b t = tt
and_left false b t = t

pub and_right : (a b : Bool) → T (a && b) → T b
and_right true b t = t
and_right false b t = absurd t

pub and_both : (a b : Bool) → T a → T b → T (a && b)
and_both true b s t = t
and_both false b s t = s

pub or_right : (a b : Bool) → T (a || b) → (T a → ⊥) → T b
or_right true b t n = absurd (n tt)
or_right false b t n = t

-- the test f passes at each number below the bound
abbrev pub all : (ℕ → Bool) → ℕ → Bool
all f zero = true
all f (suc n) = f n && all f n

pub all-at : (f : ℕ → Bool) (n : ℕ) → T (all f n) → (k : ℕ) → k < n → T (f k)
all-at f zero t k h = absurd (not-suc-le-zero h)
all-at f (suc n) t k h = pick (ℕ_discrete k n) (all-at f n (and_right (f n) (all f n) t) k)
  where
    pick : Dec (k ≡ n) → (k < n → T (f k)) → T (f k)
    pick (yes e) r = subst (λ (j : ℕ). T (f j)) (sym e) (and_left (f n) (all f n) t)
    pick (no d) r = r (omega arith)
