-- What the answers to the questions say. Assumes nothing.
use Rattle.std.proofs.Common.{Ok, Err}
use Rattle.field.specs.Question.{Verdict}
use Rattle.field.proofs.Base.{◌≡◌, refl, sym, ap, ◌∙◌, subst, ◌≢◌, Bool, true, false, not, ◌&&◌, cond, false≢true, List, [], ◌∷◌, ℕ, ◌≤◌, ◌<◌}
use Rattle.field.proofs.Base.{arith, eqb, ltb, lt-ltb, le-ltb, ltb-true, ne_eqb}
use lib.Pow.{pow_pos}
use Rattle.field.specs.Field.{order}
use Rattle.field.specs.Question.{Outcome, ask, after, is_width, all_below}
use Rattle.field.specs.Answer.{operands}
use Rattle.field.specs.inner.Operand.{Operand, order_of}
use Rattle.field.specs.declared.Question.{Question}
use Rattle.field.specs.declared.Question.TheVariants.{Width, Symbol, Nonzero}

-- ---- any questions

-- the outcome after a verdict v, which the definition w equals
pub after-passed : (v w : Verdict) (o : Outcome) → v ≡ w → v ≡ (Ok tt) → o ≡ after w o
after-passed v w o e p = ap (λ (x : Verdict). after x o) (sym p ∙ e)

-- where the verdict is that all questions passed, each was answered yes
pub ask-yes : (b : Bool) (q : Question) (v : Verdict) → ask b q v ≡ (Ok tt) → b ≡ true
ask-yes true q v e = refl
ask-yes false q v e = let z : true ≡ false = cc in absurd (false≢true (sym z))

pub ask-next : (b : Bool) (q : Question) (v : Verdict) → ask b q v ≡ (Ok tt) → v ≡ (Ok tt)
ask-next true q v e = e
ask-next false q v e = let z : true ≡ false = cc in absurd (false≢true (sym z))

pub and-true-left : (a b : Bool) → (a && b) ≡ true → a ≡ true
and-true-left true b e = refl
and-true-left false b e = e

pub and-true-right : (a b : Bool) → (a && b) ≡ true → b ≡ true
and-true-right true b e = e
and-true-right false b e = absurd (false≢true e)

-- ---- questions 1 and 7, put to operands

pub order-none : (m : ℕ) → m ≢ 3 → m ≢ 4 → m ≢ 5 → m ≢ 7 → order_of m ≡ 0
order-none m a b c d = simp (ne_eqb m 3 a, ne_eqb m 4 b, ne_eqb m 5 c, ne_eqb m 7 d)

-- what `order_of` tells of the width
pub width-yes : (m q : ℕ) → q ≡ order_of m → q ≢ 0 → is_width m ≡ true
width-yes m q e n = go (is_width m) e
  where
    go : (b : Bool) → q ≡ cond b (order m) 0 → b ≡ true
    go true p = refl
    go false p = absurd (n p)

pub width-no : (m q : ℕ) → q ≡ order_of m → q ≡ 0 → is_width m ≡ false
width-no m q e z = go (is_width m) e
  where
    go : (b : Bool) → q ≡ cond b (order m) 0 → b ≡ false
    go false p = refl
    go true p = absurd (omega (arith, pow_pos m, sym z ∙ p))

pub order_is : (m q : ℕ) → q ≡ order_of m → is_width m ≡ true → q ≡ order m
order_is m q e w = e ∙ ap (λ (b : Bool). cond b (order m) 0) w

module _ (m q a : ℕ) (e : q ≡ order_of m) where
  pub refuse-width : q ≡ 0 → Err Width ≡ operands m (a ∷ [])
  unfolding operands
  refuse-width z = rw (width-no m q e z)

  pub pass-symbol : q ≢ 0 → a < q → (Ok tt) ≡ operands m (a ∷ [])
  unfolding operands
  pass-symbol n h =
      let w = width-yes m q e n in
      simp (w, lt-ltb a (order m) (subst (λ (x : ℕ). a < x) (order_is m q e w) h))

  pub refuse-symbol : q ≢ 0 → q ≤ a → Err Symbol ≡ operands m (a ∷ [])
  unfolding operands
  refuse-symbol n h =
      let w = width-yes m q e n in
      simp (w, le-ltb a (order m) (subst (λ (x : ℕ). x ≤ a) (order_is m q e w) h))

-- one operand after the other
module _ (m a b : ℕ) (v : Verdict) (e : v ≡ operands m (a ∷ [])) where
  pub operands-on : (u : Verdict) → v ≡ (Ok tt) → u ≡ operands m (b ∷ []) → u ≡ operands m (a ∷ b ∷ [])
  unfolding operands
  operands-on u p f = f ∙ go (is_width m) (ltb a (order m)) (sym e ∙ p)
    where
      go : (w s : Bool) → ask w Width (ask (s && true) Symbol (Ok tt)) ≡ (Ok tt)
          → ask w Width (ask (ltb b (order m) && true) Symbol (Ok tt)) ≡ ask w Width (ask (s && (ltb b (order m) && true)) Symbol (Ok tt))
      go false s h = refl
      go true true h = refl
      go true false h = let z : true ≡ false = cc in absurd (false≢true (sym z))

-- ---- question 10

pub ask-nonzero : (a : ℕ) (o : Outcome) → a ≢ 0 → o ≡ after (ask (not (eqb a 0)) Nonzero (Ok tt)) o
ask-nonzero a o n = simp (ne_eqb a 0 n)

-- ---- operands that passed

pub operand-of : (m a b : ℕ) → is_width m ≡ true → a ≡ b → b < order m → Operand m a
operand-of m a b w e h = record { width = w; symbol = subst (λ (x : ℕ). x < order m) (sym e) h }

pub operand-first : (m a : ℕ) (xs : List ℕ) (v : Verdict) → v ≡ operands m (a ∷ xs) → v ≡ (Ok tt) → Operand m a
unfolding operands
operand-first m a xs v e p =
    let h = sym e ∙ p in
    record {
      width = ask-yes (is_width m) Width _ h;
      symbol = ltb-true a (order m)
          (and-true-left (ltb a (order m)) (all_below (order m) xs) (ask-yes _ Symbol (Ok tt) (ask-next (is_width m) Width _ h)));
    }

pub operand-second : (m a b : ℕ) (v : Verdict) → v ≡ operands m (a ∷ b ∷ []) → v ≡ (Ok tt) → Operand m b
unfolding operands
operand-second m a b v e p =
    let h = sym e ∙ p in
    record {
      width = ask-yes (is_width m) Width _ h;
      symbol = ltb-true b (order m) (and-true-left (ltb b (order m)) true
          (and-true-right (ltb a (order m)) (ltb b (order m) && true) (ask-yes _ Symbol (Ok tt) (ask-next (is_width m) Width _ h))));
    }
