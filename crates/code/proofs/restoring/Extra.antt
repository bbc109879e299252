-- A codeword is within r places of a word, outside the erasures, just if it agrees with the word outside the erasures and at most r extra
-- places. Assumes nothing.
use Rattle.field.proofs.Base.{◌≡◌, refl, sym, ap, ap₂, ◌∙◌, subst, ◌≢◌, Bool, true, false, cond, ◌||◌, true≢false, List, [], ◌∷◌, ◌++◌, ℕ, zero, suc}
use Rattle.field.proofs.Base.{◌+◌, ◌≤◌, ◌<◌, zero-le, le_refl, not-suc-le-zero, ℕ_discrete, arith, eq-eqb, ne_eqb, eqb-true, eqb, length}
use native.Mathlib.Nat.{le_trans}
use Rattle.field.specs.Question.{all_below}
use Rattle.code.specs.Word.{places, at, Codeword}
use Rattle.code.specs.Erasure.{member, distinct, total, differ}
use Rattle.code.proofs.Sums.{total-le}
use Rattle.code.proofs.Questions.{or-false-left}
use Rattle.code.proofs.Members.{append_left, append_right, member-append, members-le, distinct_cons, below-cons}
use Rattle.code.specs.Near.{Near}
use Rattle.code.proofs.distance.Unique.{differ-eq, differ-le}
use Rattle.code.specs.inner.Correction.{Agrees, Lent}

-- the places below n, the highest first
abbrev pub Falling : ℕ → List ℕ → Type 0
Falling n [] = Unit {0}
Falling n (p ∷ ps) = (p < n) × Falling p ps

pub falling-le : (k n : ℕ) (ps : List ℕ) → k ≤ n → Falling k ps → Falling n ps
falling-le k n [] h d = tt
falling-le k n (p ∷ ps) h d = (le_trans d.0 h, d.1)

module _ (es w c : List ℕ) where
  -- p is erased, or the words agree there
  abbrev excused : ℕ → Bool
  excused p = member p es || eqb (at w p) (at c p)

  -- the places below n, outside the erasures, at which the words differ
  unfoldable pub wrong : ℕ → List ℕ
  wrong zero = []
  wrong (suc n) = cond (excused n) (wrong n) (n ∷ wrong n)

  length-wrong : (n : ℕ) → length (wrong n) ≡ total n (λ p. cond (member p es) 0 (differ (at w p) (at c p)))
  unfolding wrong total
  length-wrong zero = refl
  length-wrong (suc n) = go (member n es) (eqb (at w n) (at c n)) (length-wrong n)
    where
      go : (s t : Bool) {k : ℕ} → length (wrong n) ≡ k → length (cond (s || t) (wrong n) (n ∷ wrong n)) ≡ k + cond s 0 (cond t 0 1)
      go true t e = omega arith
      go false true e = omega arith
      go false false e = omega arith

  falling-wrong : (n : ℕ) → Falling n (wrong n)
  unfolding wrong
  falling-wrong zero = tt
  falling-wrong (suc n) = go (excused n) (falling-wrong n)
    where
      go : (t : Bool) → Falling n (wrong n) → Falling (suc n) (cond t (wrong n) (n ∷ wrong n))
      go true d = falling-le n (suc n) (wrong n) (omega arith) d
      go false d = (le_refl (suc n), d)

  -- whether one more place is listed says nothing of another
  member-other : (t : Bool) (n p : ℕ) → p ≢ n → member p (cond t (wrong n) (n ∷ wrong n)) ≡ member p (wrong n)
  member-other true n p d = refl
  member-other false n p d = rw (ne_eqb p n d)

  wrong-out : (n p : ℕ) → n ≤ p → member p (wrong n) ≡ false
  unfolding wrong
  wrong-out zero p h = refl
  wrong-out (suc n) p h = member-other (excused n) n p (λ e. omega arith) ∙ wrong-out n p (omega arith)

  wrong-in : (n p : ℕ) → p < n → member p (wrong n) ≡ false → excused p ≡ true
  unfolding wrong
  wrong-in zero p h o = absurd (not-suc-le-zero h)
  wrong-in (suc n) p h o = go (ℕ_discrete p n) (λ l. wrong-in n p l)
    where
      top : (t : Bool) → member n (cond t (wrong n) (n ∷ wrong n)) ≡ false → t ≡ true
      top true e = refl
      top false e = absurd (true≢false (sym (ap (λ (t : Bool). t || member n (wrong n)) (eq-eqb n n refl)) ∙ e))

      go : Dec (p ≡ n) → (p < n → member p (wrong n) ≡ false → excused p ≡ true) → excused p ≡ true
      go (yes e) ih = subst (λ (j : ℕ). excused j ≡ true) (sym e) (top (excused n) (subst (λ (j : ℕ). member j (wrong (suc n)) ≡ false) e o))
      go (no d) ih = ih (omega arith) (sym (member-other (excused n) n p d) ∙ o)

  wrong-agrees : (n p : ℕ) → p < n → member p (wrong n ++ es) ≡ false → at c p ≡ at w p
  wrong-agrees n p h o = sym (eqb-true (at w p) (at c p)
      (sym (ap (λ (t : Bool). t || eqb (at w p) (at c p)) (append_right (wrong n) es p o)) ∙ wrong-in n p h (append_left (wrong n) es p o)))

  wrong-distinct : distinct es ≡ true → (n : ℕ) → distinct (wrong n ++ es) ≡ true
  unfolding wrong
  wrong-distinct ds zero = ds
  wrong-distinct ds (suc n) = go (excused n) refl (wrong-distinct ds n)
    where
      go : (t : Bool) → excused n ≡ t → distinct (wrong n ++ es) ≡ true → distinct (cond t (wrong n) (n ∷ wrong n) ++ es) ≡ true
      go true e d = d
      go false e d = distinct_cons n (wrong n ++ es)
          (member-append (wrong n) es n ∙ ap₂ ◌||◌ (wrong-out n n (le_refl n)) (or-false-left (member n es) (eqb (at w n) (at c n)) e)) d

  wrong-below : (b : ℕ) → all_below b es ≡ true → (n : ℕ) → n ≤ b → all_below b (wrong n ++ es) ≡ true
  unfolding wrong
  wrong-below b bs zero h = bs
  wrong-below b bs (suc n) h = go (excused n) (wrong-below b bs n (omega arith))
    where
      go : (t : Bool) → all_below b (wrong n ++ es) ≡ true → all_below b (cond t (wrong n) (n ∷ wrong n) ++ es) ≡ true
      go true d = d
      go false d = below-cons n (wrong n ++ es) b h d

-- c agrees with w outside the erasures and the extra places, at most r, the highest first, and none of them erased
pub record Beside (m : ℕ) (es w : List ℕ) (r : ℕ) (c extra : List ℕ) : Type 0 where
  pub few : length extra ≤ r
  pub falling : Falling (places m) extra
  pub lent : Lent m w (extra ++ es)
  pub agrees : Agrees m (extra ++ es) w c

-- the wrong places of a codeword within r places
pub within-beside : {m : ℕ} {es w c : List ℕ} {r : ℕ} → Lent m w es → Near m es w r c → Beside m es w r c (wrong es w c (places m))
within-beside {m} {es} {w} {c} {r} W N = record {
  few = subst (λ (n : ℕ). n ≤ r) (sym (length-wrong es w c (places m))) N.few;
  falling = falling-wrong es w c (places m);
  lent = record {
    size = W.size;
    symbols = λ p h o. W.symbols p h (append_right (wrong es w c (places m)) es p o);
    distinct = wrong-distinct es w c W.distinct (places m);
    below = wrong-below es w c (places m) W.below (places m) (le_refl (places m));
  };
  agrees = wrong-agrees es w c (places m);
}

-- and the other way
pub agrees-within : {m : ℕ} {es w c : List ℕ} {r : ℕ} (extra : List ℕ)
    → length extra ≤ r → Codeword m c → Agrees m (extra ++ es) w c → Near m es w r c
agrees-within {m} {es} {w} {c} extra h C a = record {
  codeword = C;
  few = le_trans
      (total-le _ (λ p. cond (member p extra) 1 0) (places m)
      (λ p l. go p (member p es) (member p extra) (λ e e'. a p l (member-append extra es p ∙ ap₂ ◌||◌ e' e))))
      (le_trans (members-le (places m) extra) h);
}
  where
    go : (p : ℕ) (s t : Bool) → (s ≡ false → t ≡ false → at c p ≡ at w p) → cond s 0 (differ (at w p) (at c p)) ≤ cond t 1 0
    go p true t e = zero-le
    go p false true e = differ-le (at w p) (at c p)
    go p false false e = omega (arith, differ-eq (at w p) (at c p) (sym (e refl refl)))

-- within no place at all: agreement outside the erasures
pub within-agrees : {m : ℕ} {es w : List ℕ} {r : ℕ} → Lent m w es → (c : List ℕ) → Near m es w r c → r ≡ 0 → Agrees m es w c
within-agrees {m} {es} {w} {r} W c N z p h o = wrong-agrees es w c (places m) p h (subst (λ (xs : List ℕ). member p (xs ++ es) ≡ false) (sym empty) o)
  where
    empty : wrong es w c (places m) ≡ []
    empty = none (wrong es w c (places m)) (within-beside W N).few
      where
        none : (xs : List ℕ) → length xs ≤ r → xs ≡ []
        none [] l = refl
        none (x ∷ xs) l = absurd (omega arith)
