-- The value of a number that holds one, two, four or eight symbols: their sum at exponent e, by halves. A row of numbers is a row of twice as
-- many halves; so folds and halvings in turn leave eight symbols that have the sums of all. Assumes nothing.
use Rattle.field.proofs.Base.{◌≡◌, refl, sym, ap, ap₂, ◌∙◌, subst, List, ℕ, ◌+◌, ◌*◌, ◌/◌, ◌%◌, ◌^◌, ◌<◌, arith, length}
use native.Mathlib.Nat.{mod-lt}
use lib.Bits.{xor_shr, xor_mod}
use Rattle.field.specs.Polynomial.{add}
use Rattle.field.specs.Field.{product, power, α}
use Rattle.field.specs.Sum.{at, weighted}
use Rattle.field.specs.inner.Lanes.{lanes, Below, Block}
use Rattle.field.specs.inner.Folds.{Additive, SmallValues, value_total, half, single, pair, quad, octet, Folded, Halved, Packed}
use Rattle.field.proofs.Sums.{sum-suc, sum-cong, sum-split, sum-scale}
use Rattle.field.proofs.Below.{past_end}
use Rattle.field.proofs.Lanewise.{F}
use Rattle.field.proofs.Folding.{power-apply, weighted-one, lower, upper}
use Rattle.field.proofs.Segments.{segments}
use Rattle.field.proofs.Relations.{term}

-- ---- values take sums to sums, and give symbols

additive-half : (k d : ℕ) (v : ℕ → ℕ) → Additive v → Additive (half (2 ^ k) d v)
unfolding add
additive-half k d v a x y =
    ap₂ add (ap v (xor_mod x y k) ∙ a _ _) (ap (product 7 (power 7 α d)) (ap v (xor_shr x y k) ∙ a _ _) ∙ F.product-add _ _ _)
    ∙ regroup (v (x % 2 ^ k)) (v (y % 2 ^ k)) (product 7 (power 7 α d) (v (x / 2 ^ k))) (product 7 (power 7 α d) (v (y / 2 ^ k)))
  where
    regroup : (p q r s : ℕ) → add (add p q) (add r s) ≡ add (add p r) (add q s)
    regroup p q r s = simp (F.add_assoc, F.add_left_comm)

additive-single : Additive single
unfolding add
additive-single x y = xor_mod x y 7

additive-pair : (e : ℕ) → Additive (pair e)
additive-pair e = additive-half 8 e single additive-single

additive-quad : (e : ℕ) → Additive (quad e)
additive-quad e = additive-half 16 (2 * e) (pair e) (additive-pair e)

additive-octet : (e : ℕ) → Additive (octet e)
additive-octet e = additive-half 32 (4 * e) (quad e) (additive-quad e)

-- a sum by halves
weighted-halves : (n e : ℕ) (f : ℕ → ℕ)
    → weighted 7 (n + n) f e ≡ add (weighted 7 n f e) (product 7 (power 7 α (n * e)) (weighted 7 n (λ j. f (n + j)) e))
weighted-halves n e f =
    sum-split F n n (λ j. product 7 (power 7 α (e * j)) (f j))
    ∙ ap (add (weighted 7 n f e)) (sum-cong n _ (λ j. product 7 (power 7 α (n * e)) (product 7 (power 7 α (e * j)) (f (n + j))))
    (λ j h. ap (λ (d : ℕ). product 7 (power 7 α d) (f (n + j))) (exponent j) ∙ power-apply (n * e) (e * j) (f (n + j)))
    ∙ sum-scale F (power 7 α (n * e)) n (λ j. product 7 (power 7 α (e * j)) (f (n + j))))
  where
    exponent : (j : ℕ) → e * (n + j) ≡ n * e + e * j
    exponent j = omega arith

-- v is the sum over n lanes at exponent e, of the symbols that their bytes stand for
abbrev Values : ℕ → ℕ → (ℕ → ℕ) → Type 0
Values n e v = (f : ℕ → ℕ) → Below 256 n f → v (lanes n f) ≡ weighted 7 n (λ j. f j % 128) e

values-half : (n k e : ℕ) (v : ℕ → ℕ) → 256 ^ n ≡ 2 ^ k → Values n e v → Values (n + n) e (half (2 ^ k) (n * e) v)
values-half n k e v size h f b =
    ap₂ (λ (x y : ℕ). add (v x) (product 7 (power 7 α (n * e)) (v y))) (lower n k f size b) (upper n k f size b)
    ∙ ap₂ (λ (x y : ℕ). add x (product 7 (power 7 α (n * e)) y))
    (h f (λ j l. b j (omega arith))) (h (λ j. f (n + j)) (λ j l. b (n + j) (omega arith)))
    ∙ sym (weighted-halves n e (λ j. f j % 128))

values_one : (e : ℕ) → Values 1 e single
unfolding lanes
values_one e f b = ap (λ (x : ℕ). x % 128) plain ∙ sym (weighted-one e (λ j. f j % 128) (mod-lt _ (omega arith)))
  where
    plain : 0 * 256 + f 0 ≡ f 0
    plain = omega arith

values-eight : (e : ℕ) → Values 8 e (octet e)
values-eight e = values-half 4 32 e (quad e) refl (values-half 2 16 e (pair e) refl values-two)
  where
    once : 1 * e ≡ e
    once = omega arith

    values-two : Values 2 e (pair e)
    values-two = subst (λ (d : ℕ). Values 2 e (half 256 d single)) once (values-half 1 8 e single refl (values_one e))

-- ---- numbers taken as twice as many halves
pub total-halves : (v : ℕ → ℕ) (p d n : ℕ) (ws us : List ℕ)
    → ((i : ℕ) → i < n → (at us (2 * i) ≡ at ws i % p) × (at us (2 * i + 1) ≡ at ws i / p)) → SmallValues v
    → value_total v d (2 * n) us ≡ value_total (half p d v) (2 * d) n ws
total-halves v p d n ws us h small =
    sym (segments 2 n (λ i. v (at us i)) d)
    ∙ sum-cong n _ _ (λ i l. ap (product 7 (power 7 α (2 * d * i))) (two i l))
  where
    two : (i : ℕ) → i < n → weighted 7 2 (λ t. v (at us (2 * i + t))) d ≡ half p d v (at ws i)
    two i l =
        sum-suc 1 (λ t. term d t (v (at us (2 * i + t))))
        ∙ ap₂ add (weighted-one d (λ t. v (at us (2 * i + t))) (small _) ∙ ap v (ap (at us) (none (2 * i)) ∙ (h i l).0))
        (ap₂ (λ (x y : ℕ). product 7 (power 7 α x) (v y)) (once d) (h i l).1)
      where
        none : (x : ℕ) → x + 0 ≡ x
        none x = omega arith

        once : (x : ℕ) → x * 1 ≡ x
        once x = omega arith

-- ---- the chain of folds and halvings

small-half : (p d : ℕ) (v : ℕ → ℕ) → SmallValues v → SmallValues (half p d v)
small-half p d v s x = F.add-lt _ _ (s _) (F.product_lt _ _)

small-single : SmallValues single
small-single x = mod-lt x (omega arith)

module _ (R : ℕ → Type 0) (w r1 s1 r2 s2 r3 s3 r4 : List ℕ) (a : ℕ) where
  pub chain : Folded R w r1 → Halved 4294967296 r1 s1 → Folded R s1 r2 → Halved 65536 r2 s2 → Folded R s2 r3 → Halved 256 r3 s3
      → Folded R s3 r4 → a ≡ lanes 8 (λ i. at r4 i % 128) → Packed R w a
  chain f1 h1 f2 h2 f3 h3 f4 q = record {
    symbols = λ i. at r4 i % 128;
    below = λ i l. mod-lt _ (omega arith);
    held = q;
    same = λ e p8 p4 p2 p1.
        f4 single e additive-single p1 ∙ h3 single e small-single
        ∙ f3 (pair e) (2 * e) (additive-pair e) p2 ∙ h2 (pair e) (2 * e) (small-pair e) ∙ ap (λ (d : ℕ). value_total (quad e) d 8 r2) (twice e)
        ∙ f2 (quad e) (4 * e) (additive-quad e) p4 ∙ h1 (quad e) (4 * e) (small-quad e) ∙ ap (λ (d : ℕ). value_total (octet e) d 8 r1) (again e)
        ∙ f1 (octet e) (8 * e) (additive-octet e) p8;
  }
    where
      twice : (e : ℕ) → 2 * (2 * e) ≡ 4 * e
      twice e = omega arith

      again : (e : ℕ) → 2 * (4 * e) ≡ 8 * e
      again e = omega arith

      small-pair : (e : ℕ) → SmallValues (pair e)
      small-pair e = small-half 256 e single small-single

      small-quad : (e : ℕ) → SmallValues (quad e)
      small-quad e = small-half 65536 (2 * e) (pair e) (small-pair e)

-- ---- the sum over the symbols, from their numbers

module _ (cs : List ℕ) (size : length cs ≡ 127) where
  octets : (ws : List ℕ) → ((i : ℕ) → i < 16 → Block 8 cs (8 * i) (at ws i)) → (e : ℕ)
      → value_total (octet e) (8 * e) 16 ws ≡ weighted 7 127 (λ i. at cs i % 128) e
  octets ws h e =
      sum-cong 16 _ _ (λ i l. ap (product 7 (power 7 α (8 * e * i)))
      (ap (octet e) (h i l).held ∙ values-eight e (λ j. at cs (8 * i + j)) (h i l).bytes))
      ∙ segments 8 16 (λ i. at cs i % 128) e
      ∙ sum-suc 127 (λ i. product 7 (power 7 α (e * i)) (at cs i % 128))
      ∙ ap (add (weighted 7 127 (λ i. at cs i % 128) e))
      (ap (λ (x : ℕ). product 7 (power 7 α (e * 127)) (x % 128)) (past_end cs 127 (omega (arith, size))) ∙ F.product-zero _)
      ∙ F.add-zero _

  -- a sum, from that of the packed symbols
  pub sum-of-packed : (R : ℕ → Type 0) (ws : List ℕ) (a : ℕ) → ((i : ℕ) → i < 16 → Block 8 cs (8 * i) (at ws i))
      → Packed R ws a → (e r : ℕ) → R (8 * e) → R (4 * e) → R (2 * e) → R e
      → ((f : ℕ → ℕ) → Below 128 8 f → a ≡ lanes 8 f → r ≡ weighted 7 8 f e) → r ≡ weighted 7 127 (λ i. at cs i % 128) e
  sum-of-packed R ws a h k e r p8 p4 p2 p1 fold = fold k.symbols k.below k.held ∙ k.same e p8 p4 p2 p1 ∙ octets ws h e
