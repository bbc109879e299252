-- Masks and shifts multiply every lane by a power of α: one test that antt computes, over the symbols of one lane, and the laws of
-- Packing.antt. Assumes nothing.
use Rattle.field.proofs.Base.{◌≡◌, sym, ap, ap₂, ◌∙◌, Bool, ◌&&◌, ℕ, ◌-◌, ◌*◌, ◌/◌, ◌%◌, ◌^◌, ◌≤◌, ◌<◌, mod-eq_of_lt, arith, T, eqb, ltb}
use Rattle.field.proofs.Base.{eqb→eq}
use native.Mathlib.Nat.{lt_of_lt_of_le, pow-le-pow_right}
use lib.Bits.{bit_and, and_mask}
use lib.Pow.{pow_pos, shr_le}
use lib.Dec.{ltb→lt}
use Rattle.field.specs.Polynomial.{add}
use Rattle.field.specs.Field.{product, power, α}
use Rattle.field.specs.inner.Operand.{arithmetic}
use Rattle.field.proofs.Laws.{IsField}
use Rattle.field.proofs.Widths.{Width.seven, field_at, doubles, doubles-power}
use Rattle.field.proofs.Check.{and_left, and_right, all, all-at}
use Rattle.field.specs.inner.Lanes.{lanes, Below, Times}
use Rattle.field.proofs.Packing.{lanes-cong, lanes-lt, lanes-times, lanes-over, lanes-add, lanes-and}

pub F : IsField 7
F = field_at seven

-- the digits that stay, moved up by k, and the k digits that leave
abbrev staying : ℕ → ℕ → ℕ
staying k b = bit_and b (127 / 2 ^ k) * 2 ^ k

abbrev leaving : ℕ → ℕ → ℕ
leaving k b = bit_and b (127 - 127 / 2 ^ k) / 2 ^ (7 - k)

abbrev multiplied : ℕ → ℕ → ℕ
multiplied k b = add (add (staying k b) (leaving k b)) (leaving k b * 8)

-- what is computed of a lane
abbrev whole : ℕ → ℕ → Bool
whole k b = eqb (leaving k b * 2 ^ (7 - k)) (bit_and b (127 - 127 / 2 ^ k))

abbrev fits : ℕ → ℕ → Bool
fits k b = ltb (staying k b) 128 && ltb (leaving k b) 16

abbrev right : ℕ → ℕ → Bool
right k b = eqb (multiplied k b) (product 7 (doubles 7 k) b)

lane : ℕ → ℕ → Bool
lane k b = right k b && (whole k b && fits k b)

computed : T (all (λ k. all (lane k) 128) 5)
unfolding arithmetic doubles lane
computed = tt

record Lane (k b : ℕ) : Type 0 where
  exact : multiplied k b ≡ product 7 (power 7 α k) b
  back : leaving k b * 2 ^ (7 - k) ≡ bit_and b (127 - 127 / 2 ^ k)
  stays : staying k b < 128
  leaves : leaving k b < 16

lane-at : (k b : ℕ) → k ≤ 4 → b < 128 → Lane k b
unfolding lane
lane-at k b h l =
    let t = all-at (lane k) 128 (all-at (λ k. all (lane k) 128) 5 computed k (omega arith)) b l in
    let u = and_right (right k b) (whole k b && fits k b) t in
    let v = and_right (whole k b) (fits k b) u in
    record {
      exact = eqb→eq (multiplied k b) (product 7 (doubles 7 k) b) (and_left (right k b) (whole k b && fits k b) t)
          ∙ ap (λ (x : ℕ). product 7 x b) (doubles-power 7 F.positive k);
      back = eqb→eq (leaving k b * 2 ^ (7 - k)) (bit_and b (127 - 127 / 2 ^ k)) (and_left (whole k b) (fits k b) u);
      stays = ltb→lt (staying k b) 128 (and_left (ltb (staying k b) 128) (ltb (leaving k b) 16) v);
      leaves = ltb→lt (leaving k b) 16 (and_right (ltb (staying k b) 128) (ltb (leaving k b) 16) v);
    }

-- eight lanes that hold 1
abbrev pub ones : ℕ
ones = 72340172838076673

pub mask : (m : ℕ) → ones * m ≡ lanes 8 (λ j. m)
unfolding lanes
mask m = omega arith

-- the symbols that bytes stand for
pub lanes-cut : (n : ℕ) (f : ℕ → ℕ) → n ≤ 8 → Below 256 n f → bit_and (lanes n f) (ones * 127) ≡ lanes n (λ j. f j % 128)
lanes-cut n f h b =
    ap (bit_and (lanes n f)) (mask 127) ∙ lanes-and n 8 127 f h (omega arith) b ∙ lanes-cong n _ _ (λ j l. and_mask (f j) 7)

-- what the code makes of a number
abbrev pub top : ℕ → ℕ → ℕ
top k a = bit_and a (ones * (127 - 127 / 2 ^ k)) / 2 ^ (7 - k)

abbrev pub shifted : ℕ → ℕ → ℕ
shifted k a = add (add (bit_and a (ones * (127 / 2 ^ k)) * 2 ^ k % 18446744073709551616) (top k a)) (top k a * 2 ^ 3 % 18446744073709551616)

lanes-64 : (n : ℕ) (f : ℕ → ℕ) → n ≤ 8 → Below 256 n f → lanes n f % 18446744073709551616 ≡ lanes n f
lanes-64 n f h b = mod-eq_of_lt (lt_of_lt_of_le (lanes-lt n f b) (pow-le n h))
  where
    pow-le : (n : ℕ) → n ≤ 8 → 256 ^ n ≤ 18446744073709551616
    pow-le n h = pow-le-pow_right {n = 256} (omega arith) h

module _ (k n : ℕ) (f : ℕ → ℕ) (hk : k ≤ 4) (hn : n ≤ 8) (b : Below 128 n f) where
  bytes : Below 256 n f
  bytes j h = omega (arith, b j h)

  each : (j : ℕ) → j < n → Lane k (f j)
  each j h = lane-at k (f j) hk (b j h)

  stays : bit_and (lanes n f) (ones * (127 / 2 ^ k)) * 2 ^ k % 18446744073709551616 ≡ lanes n (λ j. staying k (f j))
  stays =
      ap (λ (x : ℕ). bit_and (lanes n f) x * 2 ^ k % 18446744073709551616) (mask (127 / 2 ^ k))
      ∙ ap (λ (x : ℕ). x * 2 ^ k % 18446744073709551616) (lanes-and n 8 (127 / 2 ^ k) f hn (omega (arith, shr_le 127 k)) bytes)
      ∙ ap (λ (x : ℕ). x % 18446744073709551616) (sym (lanes-times n (2 ^ k) (λ j. bit_and (f j) (127 / 2 ^ k))))
      ∙ lanes-64 n (λ j. staying k (f j)) hn (λ j h. omega (arith, (each j h).stays))

  leaves : top k (lanes n f) ≡ lanes n (λ j. leaving k (f j))
  leaves =
      ap (λ (x : ℕ). bit_and (lanes n f) x / 2 ^ (7 - k)) (mask (127 - 127 / 2 ^ k))
      ∙ ap (λ (x : ℕ). x / 2 ^ (7 - k)) (lanes-and n 8 (127 - 127 / 2 ^ k) f hn (omega arith) bytes
      ∙ lanes-cong n _ (λ j. leaving k (f j) * 2 ^ (7 - k)) (λ j h. sym (each j h).back))
      ∙ lanes-over n (2 ^ (7 - k)) (λ j. leaving k (f j)) (pow_pos (7 - k))

  comes : top k (lanes n f) * 2 ^ 3 % 18446744073709551616 ≡ lanes n (λ j. leaving k (f j) * 8)
  comes =
      ap (λ (x : ℕ). x * 8 % 18446744073709551616) leaves
      ∙ ap (λ (x : ℕ). x % 18446744073709551616) (sym (lanes-times n 8 (λ j. leaving k (f j))))
      ∙ lanes-64 n (λ j. leaving k (f j) * 8) hn (λ j h. omega (arith, (each j h).leaves))

  lanewise : shifted k (lanes n f) ≡ lanes n (λ j. product 7 (power 7 α k) (f j))
  lanewise =
      ap₂ add (ap₂ add stays leaves ∙ lanes-add n _ _ (λ j h. omega (arith, (each j h).stays)) (λ j h. omega (arith, (each j h).leaves))) comes
      ∙ lanes-add n (λ j. add (staying k (f j)) (leaving k (f j))) (λ j. leaving k (f j) * 8)
      (λ j h. small _ (F.add-lt _ _ (each j h).stays (omega (arith, (each j h).leaves)))) (λ j h. omega (arith, (each j h).leaves))
      ∙ lanes-cong n _ _ (λ j h. (each j h).exact)
    where
      small : (x : ℕ) → x < 128 → x < 256
      small x h = omega arith

pub shift-times : (k a : ℕ) → k ≤ 4 → Times k a (shifted k a)
shift-times k a hk n f hn b e = ap (shifted k) e ∙ lanewise k n f hk hn b
