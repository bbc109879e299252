-- The numbers and dates that stand in a column, as the functions find them. Assumes nothing.
use Rattle.field.proofs.Base.{◌≡◌, sym, ap, ap₂, ◌∙◌, true, ◌&&◌, List, [], ◌∷◌, ℕ, zero, suc, ◌+◌, ◌-◌, ◌*◌, ◌≤◌, ◌<◌, add-one, arith, leb-true, leb}
use Rattle.field.proofs.Base.{length, get_or, drop, drop_of_length-le, drop-cons, ◌^◌, refl}
use Rattle.std.proofs.Math.Nat.{pow-suc}
use Rattle.std.specs.Char.{is_ascii_digit}
use Rattle.std.specs.List.{list_all}
use Rattle.field.proofs.Ask.{and-true-left, and-true-right}
use Rattle.card_csv.specs.Reading.{is_digit, all_digits, is_decimal, decimal_from, value_of}

-- ---- digits

module _ (x : ℕ) where
  pub digit-least : is_digit x ≡ true → 48 ≤ x
  unfolding is_digit
  digit-least e = leb-true 48 x (and-true-left (leb 48 x) (leb x 57) e)

  pub digit-most : is_digit x ≡ true → x ≤ 57
  unfolding is_digit
  digit-most e = leb-true x 57 (and-true-right (leb 48 x) (leb x 57) e)

pub digit-test : (x : ℕ) → is_ascii_digit x ≡ is_digit x
unfolding is_digit
digit-test x = refl

pub digits-test : (xs : List ℕ) → list_all is_ascii_digit xs ≡ all_digits xs
unfolding all_digits
digits-test [] = refl
digits-test (x ∷ xs) = ap₂ ◌&&◌ (digit-test x) (digits-test xs)

pub digits-at : (text : List ℕ) → all_digits text ≡ true → (i : ℕ) → i < length text → is_digit (get_or text i 0) ≡ true
unfolding all_digits
digits-at [] e zero h = absurd (omega arith)
digits-at [] e (suc i) h = absurd (omega arith)
digits-at (x ∷ xs) e zero h = and-true-left (is_digit x) (all_digits xs) e
digits-at (x ∷ xs) e (suc i) h = digits-at xs (and-true-right (is_digit x) (all_digits xs) e) i (omega arith)

-- ---- numbers

module _ (m : ℕ) (xs : List ℕ) (e : is_decimal m xs ≡ true) where
  rest : (leb (length xs) m && all_digits xs) ≡ true
  unfolding is_decimal
  rest = and-true-right (leb 1 (length xs)) (leb (length xs) m && all_digits xs) e

  pub number-few : length xs ≤ m
  number-few = leb-true (length xs) m (and-true-left (leb (length xs) m) (all_digits xs) rest)

  pub number-all : all_digits xs ≡ true
  number-all = and-true-right (leb (length xs) m) (all_digits xs) rest

  pub number_at : (i : ℕ) → i < length xs → is_digit (get_or xs i 0) ≡ true
  number_at i h = digits-at xs number-all i h

-- so far v is the number of the first i digits
abbrev pub Valued : List ℕ → ℕ → ℕ → Type 0
Valued xs i v = (v < 10 ^ i) × (decimal_from v (drop i xs) ≡ value_of xs)

pub valued-start : (xs : List ℕ) → Valued xs 0 0
valued-start xs = (omega arith, refl)

module _ (xs : List ℕ) (e : is_decimal 3 xs ≡ true) (i v : ℕ) (h : i < length xs) (V : Valued xs i v) where
  pub valued-digit : (48 ≤ get_or xs i 0) × (get_or xs i 0 ≤ 57)
  valued-digit = (digit-least _ (number_at 3 xs e i h), digit-most _ (number_at 3 xs e i h))

  pub valued-small : v < 100
  valued-small = go i V.0 (omega (arith, number-few 3 xs e))
    where
      go : (k : ℕ) → v < 10 ^ k → k < 3 → v < 100
      go zero l m = omega (arith, l)
      go (suc zero) l m = omega (arith, l)
      go (suc (suc zero)) l m = omega (arith, l)
      go (suc (suc (suc k))) l m = absurd (omega arith)

  pub valued-on : (d : ℕ) → d ≡ get_or xs i 0 - 48 → Valued xs (i + 1) (v * 10 + d)
  unfolding decimal_from
  valued-on d ed =
      let one : drop i xs ≡ get_or xs i 0 ∷ drop (i + 1) xs = rw (add-one, drop-cons xs i 0) in
      let digit = valued-digit in
      let more : 10 ^ (i + 1) ≡ 10 ^ i * 10 = rw (add-one i) (pow-suc 10 i) in (
        omega (arith, V.0, more, ed),
        ap (λ (n : ℕ). decimal_from (v * 10 + n) (drop (i + 1) xs)) ed ∙ sym (ap (decimal_from v) one) ∙ V.1,
      )

pub valued-end : (xs : List ℕ) (i v : ℕ) → length xs ≤ i → Valued xs i v → v ≡ value_of xs
unfolding decimal_from
valued-end xs i v h V = sym (ap (decimal_from v) (drop_of_length-le xs h)) ∙ V.1
