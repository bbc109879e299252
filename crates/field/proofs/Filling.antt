-- The last of the sixteen numbers that hold 127 symbols. Assumes nothing.
use Rattle.field.proofs.Base.{◌≡◌, subst, List, ℕ, ◌+◌, ◌*◌, ◌/◌, ◌<◌, dec_lt, arith, length}
use Rattle.field.specs.Sum.{at}
use Rattle.field.specs.inner.Lanes.{lanes, Block}
use Rattle.field.proofs.Below.{past_end}

-- the last number has seven symbols, and a 0
pub last-number : (cs : List ℕ) (r : ℕ) → length cs ≡ 127 → Block 8 cs 119 r → Block 8 cs (8 * 15) (r / 256)
unfolding lanes
last-number cs r size k =
    record {
      held = omega (arith, k.held, k.bytes 0 (omega arith), none);
      bytes = λ j h. go j h (dec_lt j 7);
    }
  where
    none : at cs 127 ≡ 0
    none = past_end cs 127 (omega (arith, size))

    go : (j : ℕ) → j < 8 → Dec (j < 7) → at cs (120 + j) < 256
    go j h (yes l) =
        let e : 119 + (j + 1) ≡ 120 + j = omega arith in
        rw e at (k.bytes (j + 1) (omega arith))
    go j h (no l) =
        let e : 127 ≡ 120 + j = omega arith in
        subst (λ (p : ℕ). at cs p < 256) e (omega (arith, none))
