-- The errors of a word beside a codeword, as values at places: the syndromes are the combination of the columns there. Assumes nothing.
use Rattle.field.proofs.Base.{◌≡◌, refl, sym, ap, ap₂, ◌∙◌, subst, ◌≢◌, Bool, true, false, cond, ◌||◌, false≢true, List, [], ◌∷◌, map, ℕ, zero, suc}
use Rattle.field.proofs.Base.{◌≤◌, ◌<◌, le_refl, ℕ_discrete, arith, ne_eqb, eqb, get_or}
use Rattle.field.specs.Polynomial.{add}
use Rattle.field.specs.Field.{order, product}
use Rattle.field.specs.Question.{all_below}
use Rattle.field.proofs.Laws.{IsField}
use Rattle.field.proofs.Below.{below-head, below-tail}
use Rattle.code.specs.Word.{checks, places, at, syndrome, Codeword}
use Rattle.code.specs.inner.Place.{column}
use Rattle.code.specs.Erasure.{member, distinct, masked, masked_syndrome}
use Rattle.code.specs.inner.Correction.{Lent}
use Rattle.code.proofs.Algebra.{add-of-eq}
use Rattle.code.proofs.Sums.{syndrome-add, syndrome-zero}
use Rattle.code.proofs.Questions.{not-member-head, not-member-tail}
use Rattle.code.proofs.Members.{distinct_head, distinct_tail, distinct_cons, below-cons}
use Rattle.code.proofs.Columns.{combine, column-unit, column-none, syndrome-masked}
use Rattle.code.proofs.restoring.Filling.{masked-lt}
use Rattle.code.proofs.restoring.Extra.{Falling, falling-le, wrong}
use Rattle.code.specs.inner.Locate.{Zeros}

-- what has to be added to the word, with 0 at the erasures, to give the codeword c
abbrev pub errors : List ℕ → List ℕ → List ℕ → ℕ → ℕ
errors es w c p = add (masked es (at w) p) (at c p)

-- the sums s are those of the values e at the places ls
pub record Pattern (m : ℕ) (s e : ℕ → ℕ) (ls : List ℕ) : Type 0 where
  pub small : (p : ℕ) → p < places m → e p < order m
  pub rows : (k : ℕ) → k < checks → s k ≡ combine m ls (map e ls) k

-- ---- places that fall

pub falling-out : (n : ℕ) (ps : List ℕ) → Falling n ps → (p : ℕ) → n ≤ p → member p ps ≡ false
falling-out n [] d p h = refl
falling-out n (q ∷ ps) d p h =
    let l : q < n = d.0 in
    rw (ne_eqb p q (λ e. omega arith)) (falling-out q ps d.1 p (omega arith))

pub falling-at : (n : ℕ) (ps : List ℕ) → 0 < n → Falling n ps → (i : ℕ) → get_or ps i 0 < n
falling-at n [] h d i = h
falling-at n (q ∷ ps) h d zero = d.0
falling-at n (q ∷ ps) h d (suc i) = let l : q < n = d.0 in falling-at n ps h (falling-le q n ps (omega arith) d.1) i

pub falling-distinct : (n : ℕ) (ps : List ℕ) → Falling n ps → distinct ps ≡ true
falling-distinct n [] d = refl
falling-distinct n (q ∷ ps) d = distinct_cons q ps (falling-out q ps d.1 q (le_refl q)) (falling-distinct q ps d.1)

pub falling-below : (n b : ℕ) (ps : List ℕ) → n ≤ b → Falling n ps → all_below b ps ≡ true
falling-below n b [] h d = refl
falling-below n b (q ∷ ps) h d =
    let l : q < n = d.0 in
    below-cons q ps b (omega arith) (falling-below q b ps (omega arith) d.1)

-- the words differ at the wrong places, and none of them is erased
pub wrong-is : (es w c : List ℕ) (n p : ℕ) → member p (wrong es w c n) ≡ true → (member p es || eqb (at w p) (at c p)) ≡ false
unfolding wrong
wrong-is es w c zero p e = absurd (false≢true e)
wrong-is es w c (suc n) p e = go (member n es || eqb (at w n) (at c n)) refl (ℕ_discrete p n) (wrong-is es w c n p) e
  where
    go : (t : Bool) → (member n es || eqb (at w n) (at c n)) ≡ t → Dec (p ≡ n)
        → (member p (wrong es w c n) ≡ true → (member p es || eqb (at w p) (at c p)) ≡ false)
        → member p (cond t (wrong es w c n) (n ∷ wrong es w c n)) ≡ true → (member p es || eqb (at w p) (at c p)) ≡ false
    go true f d ih o = ih o
    go false f (yes d) ih o = subst (λ (j : ℕ). (member j es || eqb (at w j) (at c j)) ≡ false) (sym d) f
    go false f (no d) ih o = ih (rw (ne_eqb p n d) at o)

module _ {m : ℕ} (F : IsField m) where
  -- ---- check places only

  module _ (e : ℕ → ℕ) (k : ℕ) (h : k < checks) where
    pub checks-outside : (ls : List ℕ) → all_below checks ls ≡ true → member k ls ≡ false → combine m ls (map e ls) k ≡ 0
    unfolding combine
    checks-outside [] bs o = refl
    checks-outside (l ∷ ls) bs o =
        ap₂ add
        (ap (λ (n : ℕ). product m n (e l)) (column-none m l k (below-head l ls checks bs) (λ d. not-member-head k l ls o (sym d)))
        ∙ F.zero-product (e l))
        (checks-outside ls (below-tail l ls checks bs) (not-member-tail k l ls o))
        ∙ F.add-zero 0

    pub checks-inside : (ls : List ℕ) → all_below checks ls ≡ true → distinct ls ≡ true → e k < order m → member k ls ≡ true
        → combine m ls (map e ls) k ≡ e k
    unfolding combine
    checks-inside [] bs ds b o = absurd (false≢true o)
    checks-inside (l ∷ ls) bs ds b o = go (ℕ_discrete k l) (checks-inside ls (below-tail l ls checks bs) (distinct_tail l ls ds) b)
      where
        go : Dec (k ≡ l) → (member k ls ≡ true → combine m ls (map e ls) k ≡ e k)
            → add (product m (column m l k) (e l)) (combine m ls (map e ls) k) ≡ e k
        go (yes d) ih =
            ap₂ add
            (ap (λ (j : ℕ). product m (column m j k) (e j)) (sym d) ∙ ap (λ (n : ℕ). product m n (e k)) (column-unit m k h)
            ∙ F.one_product (e k) b)
            (checks-outside ls (below-tail l ls checks bs) (subst (λ (j : ℕ). member j ls ≡ false) (sym d) (distinct_head l ls ds)))
            ∙ F.add-zero (e k)
        go (no d) ih =
            ap₂ add
            (ap (λ (n : ℕ). product m n (e l)) (column-none m l k (below-head l ls checks bs) (λ f. d (sym f))) ∙ F.zero-product (e l))
            (ih (rw (ne_eqb k l d) at o))
            ∙ F.zero-add (e k)

  -- values other than 0 at check places: the sums are not 0 there, and 0 elsewhere
  pub checks-zeros : (e : ℕ → ℕ) (ls : List ℕ) → all_below checks ls ≡ true → distinct ls ≡ true
      → ((p : ℕ) → p < places m → e p < order m) → ((p : ℕ) → member p ls ≡ true → e p ≢ 0) → Zeros (λ k. combine m ls (map e ls) k) ls
  checks-zeros e ls bs ds small ne = record {
    outside = λ k h o. checks-outside e k h ls bs o;
    inside = λ k h o z. ne k o (sym (checks-inside e k h ls bs ds (small k (omega (arith, F.one-lt))) o) ∙ z);
  }

  -- ---- the pattern of a codeword

  -- a word that is 0 outside ls
  support-sums : (e : ℕ → ℕ) (ls : List ℕ) → distinct ls ≡ true → all_below (places m) ls ≡ true → ((p : ℕ) → p < places m → e p < order m)
      → ((p : ℕ) → p < places m → member p ls ≡ false → e p ≡ 0) → (k : ℕ) → k < checks → syndrome m e k ≡ combine m ls (map e ls) k
  support-sums e ls ds bs small zs k h =
      syndrome-masked F ls ds bs e small k h
      ∙ ap (λ (n : ℕ). add n (combine m ls (map e ls) k)) (syndrome-zero F (masked ls e) (λ p l. go p (member p ls) (zs p l)) k h)
      ∙ F.zero-add _
    where
      go : (p : ℕ) (t : Bool) → (t ≡ false → e p ≡ 0) → cond t 0 (e p) ≡ 0
      go p true z = refl
      go p false z = z refl

  module _ {es w c : List ℕ} (W : Lent m w es) (C : Codeword m c) where
    pub errors-lt : (p : ℕ) → p < places m → errors es w c p < order m
    errors-lt p h = F.add-lt _ _ (masked-lt F W p h) (C.symbols p h)

    -- the sums outside the erasures are those of the errors
    errors-sums : (k : ℕ) → k < checks → masked_syndrome m es w k ≡ syndrome m (errors es w c) k
    errors-sums k h =
        sym (syndrome-add F (masked es (at w)) (at c) k ∙ ap (add (masked_syndrome m es w k)) (C.zero-syndromes k h) ∙ F.add-zero _)

    -- where c agrees with w outside the places ls, among them the erasures, the errors at ls make the sums
    pub pattern-of : (ls : List ℕ) → distinct ls ≡ true → all_below (places m) ls ≡ true
        → ((p : ℕ) → p < places m → member p ls ≡ false → (member p es ≡ false) × (at c p ≡ at w p))
        → Pattern m (masked_syndrome m es w) (errors es w c) ls
    pattern-of ls ds bs a = record {
      small = errors-lt;
      rows = λ k h. errors-sums k h ∙ support-sums (errors es w c) ls ds bs errors-lt
          (λ p l o. (let f = a p l o in add-of-eq F _ _ (ap (λ (t : Bool). cond t 0 (at w p)) f.0 ∙ sym f.1))) k h;
    }
