-- Lanes times a symbol: the sum of their products with the powers of α that the symbol's digits name. Assumes nothing.
use Rattle.field.proofs.Base.{◌≡◌, ◌≢◌, refl, sym, ap, ap₂, ◌∙◌, subst, List, ℕ, zero, suc, ◌+◌, ◌*◌, ◌/◌, ◌%◌, ◌^◌, ◌≤◌, ◌<◌, mod-eq_of_lt}
use Rattle.field.proofs.Base.{arith, T, eqb, eqb→eq}
use Rattle.field.specs.Polynomial.{add}
use Rattle.field.specs.Field.{product, power, α}
use Rattle.field.specs.inner.Operand.{arithmetic}
use Rattle.field.proofs.Widths.{doubles, doubles-power}
use Rattle.field.proofs.Check.{all, all-at}
use Rattle.field.specs.Sum.{at, sum}
use Rattle.field.specs.inner.Lanes.{lanes, lane, Below, eight, Multiples, named}
use Rattle.field.proofs.Sums.{sum-suc, sum-cong, sum-times, sum_lt}
use Rattle.field.proofs.Packing.{lanes-cong, lanes-times, lanes-add, lane-lanes, eight-cong}
use Rattle.field.proofs.Lanewise.{F}

-- digit i of k
abbrev pub digit : ℕ → ℕ → ℕ
digit k i = k / 2 ^ i % 2

-- a symbol is the sum of the powers of α that its digits name
computed : T (all (λ k. eqb (sum 7 (λ i. doubles 7 i * digit k i)) k) 128)
unfolding arithmetic doubles sum
computed = tt

digits : (k : ℕ) → k < 128 → sum 7 (λ i. power 7 α i * digit k i) ≡ k
digits k h =
    sum-cong 7 _ _ (λ i l. ap (λ (x : ℕ). x * digit k i) (sym (doubles-power 7 F.positive i)))
    ∙ eqb→eq _ k (all-at (λ k. eqb (sum 7 (λ i. doubles 7 i * digit k i)) k) 128 computed k h)

product-digit : (d p x : ℕ) → d < 2 → product 7 (p * d) x ≡ product 7 p x * d
product-digit zero p x h =
    ap (λ (y : ℕ). product 7 y x) (none p) ∙ F.zero-product x ∙ sym (none (product 7 p x))
  where
    none : (y : ℕ) → y * 0 ≡ 0
    none y = omega arith
product-digit (suc zero) p x h = ap (λ (y : ℕ). product 7 y x) (one p) ∙ sym (one (product 7 p x))
  where
    one : (y : ℕ) → y * 1 ≡ y
    one y = omega arith
product-digit (suc (suc d)) p x h = absurd (omega arith)

digit_lt : (k i : ℕ) → digit k i < 2
digit_lt k i = omega arith

-- the sum over the first i digits of k of their products with x
abbrev pub part : ℕ → ℕ → ℕ → ℕ
part k i x = sum i (λ t. product 7 (power 7 α t) x * digit k t)

whole : (k x : ℕ) → k < 128 → part k 7 x ≡ product 7 k x
whole k x h =
    sum-cong 7 _ _ (λ i l. sym (product-digit (digit k i) (power 7 α i) x (digit_lt k i)))
    ∙ sum-times F 7 (λ i. power 7 α i * digit k i) x
    ∙ ap (λ (y : ℕ). product 7 y x) (digits k h)

term-lt : (k t x : ℕ) → product 7 (power 7 α t) x * digit k t < 128
term-lt k t x = subst (λ (y : ℕ). y < 128) (product-digit (digit k t) (power 7 α t) x (digit_lt k t)) (F.product_lt _ _)

part-lt : (k i x : ℕ) → part k i x < 128
part-lt k i x = sum_lt F i _ (λ t l. term-lt k t x)

module _ (k : ℕ) (f : ℕ → ℕ) where
  one_more_lem : (i s w y : ℕ) → s ≡ lanes 8 (λ j. part k i (f j)) → y ≡ lanes 8 (λ j. product 7 (power 7 α i) (f j)) → w ≡ y * digit k i
      → add s w ≡ lanes 8 (λ j. part k (suc i) (f j))
  unfolding sum
  one_more_lem i s w y es ey ew =
      ap₂ add es (ew ∙ ap (λ (x : ℕ). x * digit k i) ey ∙ sym (lanes-times 8 (digit k i) (λ j. product 7 (power 7 α i) (f j))))
      ∙ lanes-add 8 _ _ (λ j h. byte (part k i (f j)) (part-lt k i (f j))) (λ j h. byte _ (term-lt k i (f j)))
    where
      byte : (x : ℕ) → x < 128 → x < 256
      byte x h = omega arith

  module _ (ms : List ℕ) (M : Multiples f ms) where
    partial : (i : ℕ) → i ≤ 7 → sum i (λ t. at ms t * digit k t) ≡ lanes 8 (λ j. part k i (f j))
    unfolding sum lanes
    partial zero h = refl
    partial (suc i) h = one_more_lem i _ _ _ (partial i (omega arith)) (M i (omega arith)) refl

    -- those of the multiples that the digits of k name are k times the row
    multiple-named : k < 128 → named k ms ≡ lanes 8 (λ j. product 7 k (f j))
    multiple-named l = partial 7 (omega arith) ∙ lanes-cong 8 _ _ (λ j i. whole k (f j) l)

    pub multiple-row : (row : List ℕ) → k < 128 → eight (λ j. add (at row j) (lane (named k ms) j)) ≡ eight (λ j. add (at row j) (product 7 k (f j)))
    multiple-row row l =
        eight-cong _ _ (λ j h. ap (add (at row j)) (ap (λ (a : ℕ). lane a j) (multiple-named l)
        ∙ lane-lanes 8 (λ j. product 7 k (f j)) j h (λ j i. byte _ (F.product_lt _ _))))
      where
        byte : (x : ℕ) → x < 128 → x < 256
        byte x h = omega arith

-- the sum of those of the first i numbers that the digits of k name, as the code has it: one more is named, or is not
abbrev pub named-below : ℕ → ℕ → List ℕ → ℕ
named-below i k ms = sum i (λ t. at ms t * digit k t)

pub named-more : (i k s : ℕ) (ms : List ℕ) → s ≡ named-below i k ms → digit k i ≡ 1 → add s (at ms i) ≡ named-below (i + 1) k ms
named-more i k s ms e d = ap₂ add e one ∙ sym (sum-suc i _) ∙ ap (λ (n : ℕ). named-below n k ms) next
  where
    one : at ms i ≡ at ms i * digit k i
    one = rw d (omega arith)

    next : suc i ≡ i + 1
    next = omega arith

pub named-same : (i k s : ℕ) (ms : List ℕ) → s ≡ named-below i k ms → digit k i ≢ 1 → s ≡ named-below (i + 1) k ms
named-same i k s ms e d = sym (F.add-zero s) ∙ ap₂ add e none ∙ sym (sum-suc i _) ∙ ap (λ (n : ℕ). named-below n k ms) next
  where
    off : digit k i ≡ 0
    off = omega (arith, d)

    none : 0 ≡ at ms i * digit k i
    none = rw off (omega arith)

    next : suc i ≡ i + 1
    next = omega arith

-- the multiples of a row of symbols are those of the symbols that its bytes stand for
pub multiples-own : (row ms : List ℕ) → Below 128 8 (at row) → Multiples (λ j. at row j % 128) ms → Multiples (at row) ms
multiples-own row ms b M i l = M i l ∙ lanes-cong 8 _ _ (λ j h. ap (product 7 (power 7 α i)) (mod-eq_of_lt (b j h)))
