-- Eight neighbouring bytes at a time: what a test of their number says of each, and a loop that passes over them. Assumes nothing.
use Rattle.field.proofs.Base.{◌≡◌, sym, ap₂, ◌∙◌, List, ℕ, ◌+◌, ◌-◌, ◌*◌, ◌<◌, not-suc-le-zero, dec_lt, arith, length}
use lib.Bits.{bit_and, bit_or, or_add_and, or_lt, and_le_l, and_le_r}
use Rattle.field.specs.Sum.{at}
use Rattle.field.specs.inner.Lanes.{Block}
use Rattle.field.proofs.Packing.{lanes-and, lanes-zero}
use Rattle.field.proofs.Lanewise.{ones, mask}

-- a byte without a digit in common with 256 - q is below q
pub block-below : (xs : List ℕ) (i a q : ℕ) → 0 < q → Block 8 xs i a → bit_and a (ones * (256 - q)) ≡ 0 → (j : ℕ) → j < 8 → at xs (i + j) < q
block-below xs i a q l b e j h = omega (arith, apart j h, or_add_and (at xs (i + j)) (256 - q), or_lt 8 (at xs (i + j)) (256 - q) (b.bytes j h) (omega arith))
  where
    apart : (j : ℕ) → j < 8 → bit_and (at xs (i + j)) (256 - q) ≡ 0
    apart =
        lanes-zero 8 (λ j. bit_and (at xs (i + j)) (256 - q))
        (sym (lanes-and 8 8 (256 - q) (λ j. at xs (i + j)) (omega arith) (omega arith) b.bytes)
        ∙ sym (ap₂ bit_and b.held (mask (256 - q))) ∙ e)

-- ---- all bytes below q: what the blocks have in common with 256 - q is gathered, and looked at once

or_zero_left : (a b : ℕ) → bit_or a b ≡ 0 → a ≡ 0
or_zero_left a b e = omega (arith, or_add_and a b, and_le_r a b)

or_zero_right : (a b : ℕ) → bit_or a b ≡ 0 → b ≡ 0
or_zero_right a b e = omega (arith, or_add_and a b, and_le_l a b)

-- where nothing was found, the bytes before p and the last eight are below q
pub record Gathered (xs : List ℕ) (q p found : ℕ) : Type 0 where
  pub before : found ≡ 0 → (k : ℕ) → k < p → at xs k < q
  pub last : found ≡ 0 → (j : ℕ) → j < 8 → at xs (length xs - 8 + j) < q

module _ (xs : List ℕ) (q : ℕ) (positive : 0 < q) where
  pub gathered-start : (a : ℕ) → Block 8 xs (length xs - 8) a → Gathered xs q 0 (bit_and a (ones * (256 - q)))
  gathered-start a b = record {
    before = λ e k h. absurd (not-suc-le-zero h);
    last = λ e. block-below xs (length xs - 8) a q positive b e;
  }

  pub gathered-on : (p a f : ℕ) → Block 8 xs p a → Gathered xs q p f → Gathered xs q (p + 8) (bit_or f (bit_and a (ones * (256 - q))))
  gathered-on p a f b g = record {
    before = λ e k h. go e k h (dec_lt k p);
    last = λ e. g.last (or_zero_left f _ e);
  }
    where
      go : bit_or f (bit_and a (ones * (256 - q))) ≡ 0 → (k : ℕ) → k < p + 8 → Dec (k < p) → at xs k < q
      go e k h (yes l) = g.before (or_zero_left f _ e) k l
      go e k h (no l) =
          let s : p + (k - p) ≡ k = omega arith in
          rw s at (block-below xs p a q positive b (or_zero_right f _ e) (k - p) (omega arith))
