-- Restoring erasures: the codewords that agree with a word outside the places ls are the word filled there with the solutions of a linear
-- system: the columns at ls, and on the right the syndromes of the rest. Assumes nothing.
use Rattle.field.proofs.Base.{◌≡◌, refl, sym, ap, ap₂, ◌∙◌, subst, Bool, true, false, cond, List, [], ◌∷◌, map, ℕ, ◌≤◌, ◌<◌, zero-le, ℕ_discrete}
use Rattle.field.proofs.Base.{arith, ne_eqb, length, set, length-set, ext_get_or, get_or-set_same, get_or-set_other}
use Rattle.field.specs.Polynomial.{add}
use Rattle.field.specs.Field.{order}
use Rattle.field.specs.Question.{all_below}
use Rattle.field.proofs.Laws.{IsField}
use Rattle.field.proofs.Below.{below-head, below-tail}
use Rattle.code.specs.Word.{checks, places, at, syndrome, Codeword}
use Rattle.code.specs.Erasure.{member, distinct, differ, changes, masked, masked_syndrome}
use Rattle.code.specs.inner.Correction.{fill, Agrees, Lent}
use Rattle.code.proofs.Sums.{total-le, total-zero, syndrome-cong}
use Rattle.code.proofs.Questions.{not-member-head, not-member-tail}
use Rattle.code.proofs.Members.{distinct_head, distinct_tail}
use Rattle.code.proofs.distance.Unique.{differ-eq}
use Rattle.code.proofs.Columns.{combine, masked_small, syndrome-masked}

-- ---- a word filled

-- R holds of each place and its value, and there are as many values as places
abbrev pub Each : (ℕ → ℕ → Type 0) → List ℕ → List ℕ → Type 0
Each R [] [] = Unit {0}
Each R [] (z ∷ zs) = ⊥
Each R (l ∷ ls) [] = ⊥
Each R (l ∷ ls) (z ∷ zs) = R l z × Each R ls zs

pub length-fill : (w ls zs : List ℕ) → length (fill w ls zs) ≡ length w
unfolding fill
length-fill w [] zs = refl
length-fill w (l ∷ ls) [] = refl
length-fill w (l ∷ ls) (z ∷ zs) = length-set (fill w ls zs) l z ∙ length-fill w ls zs

pub fill-other : (w ls zs : List ℕ) (p : ℕ) → member p ls ≡ false → at (fill w ls zs) p ≡ at w p
unfolding fill
fill-other w [] zs p e = refl
fill-other w (l ∷ ls) [] p e = refl
fill-other w (l ∷ ls) (z ∷ zs) p e =
    get_or-set_other (fill w ls zs) l p z 0 (not-member-head p l ls e) ∙ fill-other w ls zs p (not-member-tail p l ls e)

-- what holds of each value, and of the word's symbols outside, holds of every symbol
pub fill-each : (R : ℕ → ℕ → Type 0) (w ls zs : List ℕ) → Each R ls zs → (p : ℕ) → p < length w → (member p ls ≡ false → R p (at w p))
    → R p (at (fill w ls zs) p)
unfolding fill
fill-each R w [] [] rs p h o = o refl
fill-each R w [] (z ∷ zs) rs p h o = absurd rs
fill-each R w (l ∷ ls) [] rs p h o = absurd rs
fill-each R w (l ∷ ls) (z ∷ zs) rs p h o = go (ℕ_discrete p l) (fill-each R w ls zs rs.1 p h)
  where
    go : Dec (p ≡ l) → ((member p ls ≡ false → R p (at w p)) → R p (at (fill w ls zs) p)) → R p (at (set (fill w ls zs) l z) p)
    go (yes e) ih = subst (λ (j : ℕ). R j (at (set (fill w ls zs) l z) j)) (sym e)
        (subst (R l) (sym (get_or-set_same (fill w ls zs) l z 0 (omega (arith, length-fill w ls zs)))) rs.0)
    go (no d) ih = subst (R p) (sym (get_or-set_other (fill w ls zs) l p z 0 d)) (ih (λ e. o (rw (ne_eqb p l d) e)))

map-set : (u ls : List ℕ) (l z : ℕ) → member l ls ≡ false → map (at (set u l z)) ls ≡ map (at u) ls
map-set u [] l z e = refl
map-set u (n ∷ ls) l z e =
    ap₂ ◌∷◌ (get_or-set_other u l n z 0 (λ s. not-member-head l n ls e (sym s))) (map-set u ls l z (not-member-tail l n ls e))

-- the filled word holds the values at the places
fill-values : (R : ℕ → ℕ → Type 0) (w ls zs : List ℕ) → Each R ls zs → distinct ls ≡ true → all_below (length w) ls ≡ true
    → map (at (fill w ls zs)) ls ≡ zs
unfolding fill
fill-values R w [] [] rs ds bs = refl
fill-values R w [] (z ∷ zs) rs ds bs = absurd rs
fill-values R w (l ∷ ls) [] rs ds bs = absurd rs
fill-values R w (l ∷ ls) (z ∷ zs) rs ds bs =
    ap₂ ◌∷◌ (get_or-set_same (fill w ls zs) l z 0 (omega (arith, length-fill w ls zs, below-head l ls (length w) bs)))
    (map-set (fill w ls zs) ls l z (distinct_head l ls ds) ∙ fill-values R w ls zs rs.1 (distinct_tail l ls ds) (below-tail l ls (length w) bs))

pub each_map : (R : ℕ → ℕ → Type 0) (f : ℕ → ℕ) (n : ℕ) (ls : List ℕ) → all_below n ls ≡ true → ((p : ℕ) → p < n → R p (f p)) → Each R ls (map f ls)
each_map R f n [] bs r = tt
each_map R f n (l ∷ ls) bs r = (r l (below-head l ls n bs), each_map R f n ls (below-tail l ls n bs) r)

-- ---- agreement and the number of changes

pub agrees-changes : (m : ℕ) (ls w c : List ℕ) → Agrees m ls w c → changes m ls w c ≤ 0
agrees-changes m ls w c a = subst (λ (n : ℕ). changes m ls w c ≤ n) (total-zero (places m))
    (total-le _ (λ p. 0) (places m) (λ p h. go p (member p ls) (a p h)))
  where
    go : (p : ℕ) (t : Bool) → (t ≡ false → at c p ≡ at w p) → cond t 0 (differ (at w p) (at c p)) ≤ 0
    go p true e = zero-le
    go p false e = omega (arith, differ-eq (at w p) (at c p) (sym (e refl)))

-- ---- the linear system

-- the values zs solve the system of the columns at the places ls
pub record Solution (m : ℕ) (w ls zs : List ℕ) : Type 0 where
  pub values : Each (λ p z. z < order m) ls zs
  pub rows : (k : ℕ) → k < checks → combine m ls zs k ≡ masked_syndrome m ls w k

pub fill-agrees : (m : ℕ) (w ls zs : List ℕ) → Agrees m ls w (fill w ls zs)
fill-agrees m w ls zs p h e = fill-other w ls zs p e

pub solution-values : {m : ℕ} {w ls zs : List ℕ} → Lent m w ls → Solution m w ls zs → map (at (fill w ls zs)) ls ≡ zs
solution-values {m} {w} {ls} {zs} W S =
    fill-values (λ p z. z < order m) w ls zs S.values W.distinct (subst (λ (n : ℕ). all_below n ls ≡ true) (sym W.size) W.below)

module _ {m : ℕ} (F : IsField m) where
  pub masked-lt : {w ls : List ℕ} → Lent m w ls → (p : ℕ) → p < places m → masked ls (at w) p < order m
  masked-lt {w} {ls} W p h = masked_small F ls (at w) p (W.symbols p h)

  masked-agrees : (ls w c : List ℕ) → Agrees m ls w c → (p : ℕ) → p < places m → masked ls (at c) p ≡ masked ls (at w) p
  masked-agrees ls w c a p h = go (member p ls) (a p h)
    where
      go : (t : Bool) → (t ≡ false → at c p ≡ at w p) → cond t 0 (at c p) ≡ cond t 0 (at w p)
      go true e = refl
      go false e = e refl

  -- the syndromes of a word that agrees with w outside ls
  syndrome-agrees : {w ls : List ℕ} (c : List ℕ) → Lent m w ls → ((p : ℕ) → p < places m → at c p < order m) → Agrees m ls w c
      → (k : ℕ) → k < checks → syndrome m (at c) k ≡ add (masked_syndrome m ls w k) (combine m ls (map (at c) ls) k)
  syndrome-agrees {w} {ls} c W b a k h =
      syndrome-masked F ls W.distinct W.below (at c) b k h
      ∙ ap (λ (n : ℕ). add n (combine m ls (map (at c) ls) k)) (syndrome-cong F _ _ (masked-agrees ls w c a) k h)

  -- a solution gives a codeword
  pub solution-codeword : {w ls zs : List ℕ} → Lent m w ls → Solution m w ls zs → Codeword m (fill w ls zs)
  solution-codeword {w} {ls} {zs} W S = record {
    size = length-fill w ls zs ∙ W.size;
    symbols = b;
    zero-syndromes = λ k h.
        syndrome-agrees (fill w ls zs) W b (fill-agrees m w ls zs) k h
        ∙ ap (λ (v : List ℕ). add (masked_syndrome m ls w k) (combine m ls v k)) (solution-values W S)
        ∙ ap (add (masked_syndrome m ls w k)) (S.rows k h)
        ∙ F.add-self _;
  }
    where
      b : (p : ℕ) → p < places m → at (fill w ls zs) p < order m
      b p h = fill-each (λ p z. z < order m) w ls zs S.values p (omega arith) (W.symbols p h)

  -- a codeword gives a solution, its own symbols at the places, and is the word filled with them
  pub codeword-solution : {w ls c : List ℕ} → Lent m w ls → Codeword m c → Agrees m ls w c → Solution m w ls (map (at c) ls)
  codeword-solution {w} {ls} {c} W C a = record {
    values = each_map (λ p z. z < order m) (at c) (places m) ls W.below C.symbols;
    rows = λ k h. sym (F.eq-of-add _ _ (sym (syndrome-agrees c W C.symbols a k h) ∙ C.zero-syndromes k h));
  }

  pub codeword-fill : {w ls c : List ℕ} → Lent m w ls → Codeword m c → Agrees m ls w c → fill w ls (map (at c) ls) ≡ c
  codeword-fill {w} {ls} {c} W C a =
      ext_get_or 0 (fill w ls zs) c (length-fill w ls zs ∙ W.size ∙ sym C.size) (λ p h. go p (subst (λ (n : ℕ). p < n) (length-fill w ls zs) h))
    where
      zs : List ℕ
      zs = map (at c) ls

      go : (p : ℕ) → p < length w → at (fill w ls zs) p ≡ at c p
      go p h = fill-each (λ p z. z ≡ at c p) w ls zs (each_map (λ p z. z ≡ at c p) (at c) (places m) ls W.below (λ p l. refl)) p h
          (λ e. sym (a p (omega arith) e))
