-- Codewords that differ at fewer places than the distance are one; so are codewords within r places of one word, outside its erasures.
-- Everything takes the distance as given. Assumes nothing.
use Rattle.field.proofs.Base.{◌≡◌, sym, ap, ap₂, ◌∙◌, subst, ◌≢◌, Bool, true, false, cond, List, ℕ, zero, suc, ◌+◌, ◌≤◌, ◌<◌, zero-le, le_refl}
use Rattle.field.proofs.Base.{ℕ_discrete, arith, eqb, length, ext_get_or, eq-eqb, ne_eqb}
use Rattle.field.specs.Polynomial.{add}
use Rattle.field.proofs.Laws.{IsField}
use Rattle.code.specs.Word.{places, at, Codeword}
use Rattle.code.specs.Erasure.{member, total, differ, changes}
use Rattle.code.specs.Near.{distance, radius}
use Rattle.code.proofs.Algebra.{add-of-eq}
use Rattle.code.proofs.Sums.{total-le, total-add, syndrome-add}
use Rattle.code.proofs.Members.{members-le}
use Rattle.code.proofs.distance.DistanceLaw.{nonzero, Distance}

-- ---- where two symbols differ

pub differ-eq : (a b : ℕ) → a ≡ b → differ a b ≡ 0
differ-eq a b e = ap (λ (t : Bool). cond t 0 1) (eq-eqb a b e)

pub differ-ne : (a b : ℕ) → a ≢ b → differ a b ≡ 1
differ-ne a b n = ap (λ (t : Bool). cond t 0 1) (ne_eqb a b n)

pub differ-le : (a b : ℕ) → differ a b ≤ 1
differ-le a b = go (eqb a b)
  where
    go : (t : Bool) → cond t 0 1 ≤ 1
    go true = zero-le
    go false = le_refl 1

-- if a and b differ, w differs from one of them
differ-triangle : (w a b : ℕ) → differ a b ≤ differ w a + differ w b
differ-triangle w a b = go (ℕ_discrete a b) (ℕ_discrete w a) (ℕ_discrete w b)
  where
    go : Dec (a ≡ b) → Dec (w ≡ a) → Dec (w ≡ b) → differ a b ≤ differ w a + differ w b
    go (yes e) d d' = omega (arith, differ-eq a b e)
    go (no n) (no k) d' = omega (arith, differ-ne a b n, differ-ne w a k)
    go (no n) (yes e) (no k) = omega (arith, differ-ne a b n, differ-ne w b k)
    go (no n) (yes e) (yes e') = absurd (n (sym e ∙ e'))

outside-triangle : (t : Bool) (x y z : ℕ) → x ≤ 1 → x ≤ y + z → x ≤ cond t 1 0 + (cond t 0 y + cond t 0 z)
outside-triangle true x y z h l = omega arith
outside-triangle false x y z h l = omega arith

-- ---- codewords

pub nonzero-le : (x : ℕ) → nonzero x ≤ 1
nonzero-le zero = zero-le
nonzero-le (suc x) = le_refl 1

module _ {m : ℕ} (F : IsField m) (d : ℕ) (dist : Distance m d) {c c' : List ℕ} (C : Codeword m c) (C' : Codeword m c') where
  nonzero-differ : (a b : ℕ) → nonzero (add a b) ≤ differ a b
  nonzero-differ a b = go (ℕ_discrete a b)
    where
      go : Dec (a ≡ b) → nonzero (add a b) ≤ differ a b
      go (yes e) = omega (arith, ap nonzero (add-of-eq F a b e))
      go (no n) = omega (arith, differ-ne a b n, nonzero-le (add a b))

  -- two codewords that differ at fewer than d places are one
  pub apart : total (places m) (λ p. differ (at c p) (at c' p)) < d → c ≡ c'
  apart few = ext_get_or 0 c c' (C.size ∙ sym C'.size) (λ p h. F.eq-of-add _ _ (zero p (subst (λ (n : ℕ). p < n) C.size h)))
    where
      zero : (p : ℕ) → p < places m → add (at c p) (at c' p) ≡ 0
      zero = dist (λ p. add (at c p) (at c' p))
          (λ p h. F.add-lt _ _ (C.symbols p h) (C'.symbols p h))
          (λ k h. syndrome-add F (at c) (at c') k ∙ ap₂ add (C.zero-syndromes k h) (C'.zero-syndromes k h) ∙ F.add-zero 0)
          (omega (
            arith,
            total-le (λ p. nonzero (add (at c p) (at c' p))) (λ p. differ (at c p) (at c' p)) (places m) (λ p h. nonzero-differ (at c p) (at c' p)),
          ))

  -- two codewords within a and b places of one word, outside its erasures, are one if there are few erasures
  pub same-near : (es w : List ℕ) (a b : ℕ) → length es + a + b < d → changes m es w c ≤ a → changes m es w c' ≤ b → c ≡ c'
  same-near es w a b few h h' = apart (omega (
    arith,
    members-le (places m) es,
    total-le (λ p. differ (at c p) (at c' p)) (λ p. cond (member p es) 1 0 + (u p + v p)) (places m)
        (λ p l. outside-triangle (member p es) _ _ _ (differ-le (at c p) (at c' p)) (differ-triangle (at w p) (at c p) (at c' p))),
    total-add (λ p. cond (member p es) 1 0) (λ p. u p + v p) (places m),
    total-add u v (places m),
  ))
    where
      u : ℕ → ℕ
      u p = cond (member p es) 0 (differ (at w p) (at c p))

      v : ℕ → ℕ
      v p = cond (member p es) 0 (differ (at w p) (at c' p))

-- s + 2r is below the distance
pub radius-few : (m s : ℕ) → s < distance m → s + radius m s + radius m s < distance m
radius-few m s h = omega arith
