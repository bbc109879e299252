-- The digits of small numbers, and the size of a date's numbers. Assumes nothing.
use Rattle.field.proofs.Base.{◌≡◌, refl, sym, ap, ap₂, ◌∙◌, Bool, true, false, cond, List, [], ◌∷◌, ◌++◌, append_assoc, ℕ, ◌+◌, ◌/◌, ◌%◌, ◌^◌, ◌≤◌}
use Rattle.field.proofs.Base.{◌<◌, arith, ne_eqb, leb-true, ltb-true, ltb-false, eqb, leb, ltb}
use borrow.Author.Tests.{leb-false}
use Rattle.field.proofs.Ask.{and-true-left, and-true-right}
use Rattle.card.specs.Listing.{decimal}
use Rattle.card.specs.Text.{Written, Appends, Covers}
use Rattle.card.proofs.Writing.{last_digit, decimal-one, decimal-more, appends-on, appends-as}
use Rattle.code.specs.Erasure.{member}
use Rattle.sheet.specs.Calendar.{is_leap, thirty, thirty_one, days_in, date_exists, epoch}
use Rattle.report.specs.Table.{two_digits}
use Rattle.report.proofs.Tables.{two-one, two-more}

-- ---- two digits

-- the tens and the ones
abbrev pub tens-ones : ℕ → List ℕ
tens-ones n = (48 + n / 10) ∷ (48 + n % 10) ∷ []

pub two_digits_lem : (n : ℕ) → n < 100 → two_digits n ≡ tens-ones n
two_digits_lem n h = go (ltb n 10) refl
  where
    go : (b : Bool) → ltb n 10 ≡ b → two_digits n ≡ tens-ones n
    go true t =
        let small = ltb-true n 10 t in
        let none : 48 ≡ 48 + n / 10 = omega arith in
        let all : 48 + n ≡ 48 + n % 10 = omega arith in
        two-one n small ∙ ap (λ (xs : List ℕ). 48 ∷ xs) (decimal-one n small) ∙ ap₂ (λ (x y : ℕ). x ∷ y ∷ []) none all
    go false t =
        let large = ltb-false n 10 t in
        two-more n large ∙ decimal-more n large (omega arith) ∙ ap (λ (xs : List ℕ). xs ++ last_digit n) (decimal-one (n / 10) (omega arith))

-- ---- the last two of more digits

pub last-two : (n : ℕ) → 100 ≤ n → n < 2 ^ 64 → decimal n ≡ decimal (n / 100) ++ two_digits (n % 100)
last-two n large h =
    let tenth : n / 10 / 10 ≡ n / 100 = omega arith in
    let ten : n / 10 % 10 ≡ n % 100 / 10 = omega arith in
    let one : n % 10 ≡ n % 100 % 10 = omega arith in
    decimal-more n (omega arith) h
    ∙ ap (λ (xs : List ℕ). xs ++ last_digit n) (decimal-more (n / 10) (omega arith) (omega arith))
    ∙ append_assoc (decimal (n / 10 / 10)) (last_digit (n / 10)) (last_digit n)
    ∙ ap (λ (x : ℕ). decimal x ++ ((48 + n / 10 % 10) ∷ (48 + n % 10) ∷ [])) tenth
    ∙ ap₂ (λ (x y : ℕ). decimal (n / 100) ++ ((48 + x) ∷ (48 + y) ∷ [])) ten one
    ∙ ap (λ (xs : List ℕ). decimal (n / 100) ++ xs) (sym (two_digits_lem (n % 100) (omega arith)))

-- three digits
pub three-digits : (n : ℕ) → 100 ≤ n → n < 1000 → decimal n ≡ (48 + n / 100) ∷ two_digits (n % 100)
three-digits n large h =
    last-two n large (omega arith) ∙ ap (λ (xs : List ℕ). xs ++ two_digits (n % 100)) (decimal-one (n / 100) (omega arith))

-- the four digits of a year
pub year_digits : (y : ℕ) → y < 256 → decimal (y + 2000) ≡ two_digits (20 + y / 100) ++ two_digits (y % 100)
year_digits y h =
    let front : (y + 2000) / 100 ≡ 20 + y / 100 = omega arith in
    let back : (y + 2000) % 100 ≡ y % 100 = omega arith in
    last-two (y + 2000) (omega arith) (omega arith)
    ∙ ap₂ (λ (a b : ℕ). decimal a ++ two_digits b) front back
    ∙ ap (λ (xs : List ℕ). xs ++ two_digits (y % 100)) (sym (two-more (20 + y / 100) (omega arith)))

-- ---- digits that go over leading zeros

covers-on : {a b c : Written} {x : ℕ} → Covers a b → Appends b (x ∷ []) c → Appends a (x ∷ []) c
covers-on {a} {b} {c} {x} v w = record {
  bytes = w.bytes ∙ ap (λ (l : List ℕ). l ++ (x ∷ [])) v.bytes;
  room = sym v.room ∙ w.room;
  rest = w.rest ∙ v.rest;
  lent = w.lent ∙ v.lent;
}

covers-twice : {a b c : Written} → Covers a b → Covers b c → Covers a c
covers-twice v w = record { bytes = w.bytes ∙ v.bytes; room = w.room ∙ v.room; rest = w.rest ∙ v.rest; lent = w.lent ∙ v.lent }

-- p and q say whether the first and the second digit stay
pub digits-written : (n : ℕ) → n < 256 → {a b c d : Written} {p q : Bool} → p ≡ leb 100 n → q ≡ leb 10 n
    → (p ≡ true → Appends a ((48 + n / 100) ∷ []) b) → (p ≡ false → Covers a b)
    → (q ≡ true → Appends b ((48 + n / 10 % 10) ∷ []) c) → (q ≡ false → Covers b c)
    → Appends c ((48 + n % 10) ∷ []) d → Appends a (decimal n) d
digits-written n small {a} {b} {c} {d} {p} {q} ep eq first over second under third = go (leb 10 n) (leb 100 n) refl refl
  where
    go : (s t : Bool) → leb 10 n ≡ s → leb 100 n ≡ t → Appends a (decimal n) d
    go true true e f =
        let large = leb-true 100 n f in
        let tens : 48 + n / 10 % 10 ≡ 48 + n % 100 / 10 = omega arith in
        let ones : 48 + n % 10 ≡ 48 + n % 100 % 10 = omega arith in
        appends-as
        (ap₂ (λ (x y : ℕ). (48 + n / 100) ∷ x ∷ y ∷ []) tens ones
        ∙ ap (λ (xs : List ℕ). (48 + n / 100) ∷ xs) (sym (two_digits_lem (n % 100) (omega arith)))
        ∙ sym (three-digits n large (omega arith)))
        (appends-on (first (ep ∙ f)) (appends-on (second (eq ∙ e)) third))
    go true false e f =
        let few = leb-false 100 n f in
        let ten : 48 + n / 10 % 10 ≡ 48 + n / 10 = omega arith in
        appends-as
        (ap (λ (x : ℕ). x ∷ (48 + n % 10) ∷ []) ten ∙ sym (two_digits_lem n few) ∙ two-more n (leb-true 10 n e))
        (appends-on (covers-on (over (ep ∙ f)) (second (eq ∙ e))) third)
    go false false e f =
        let few = leb-false 10 n e in
        let all : 48 + n % 10 ≡ 48 + n = omega arith in
        appends-as
        (ap (λ (x : ℕ). x ∷ []) all ∙ sym (decimal-one n few))
        (covers-on (covers-twice (over (ep ∙ f)) (under (eq ∙ e))) third)
    go false true e f = absurd (omega (arith, leb-true 100 n f, leb-false 10 n e))

-- ---- a date that exists

no-month : (y mo : ℕ) → 12 < mo → days_in y mo ≡ 0
unfolding days_in
no-month y mo h =
    simp (
      ne_eqb mo 4 (λ e. omega arith),
      ne_eqb mo 6 (λ e. omega arith),
      ne_eqb mo 9 (λ e. omega arith),
      ne_eqb mo 11 (λ e. omega arith),
      ne_eqb mo 2 (λ e. omega arith),
      ne_eqb mo 1 (λ e. omega arith),
      ne_eqb mo 3 (λ e. omega arith),
      ne_eqb mo 5 (λ e. omega arith),
      ne_eqb mo 7 (λ e. omega arith),
      ne_eqb mo 8 (λ e. omega arith),
      ne_eqb mo 10 (λ e. omega arith),
      ne_eqb mo 12 (λ e. omega arith),
    )

few-days : (y mo : ℕ) → days_in y mo ≤ 31
unfolding days_in
few-days y mo = go (member mo thirty) (eqb mo 2) (is_leap y) (member mo thirty_one)
  where
    go : (a b c d : Bool) → cond a 30 (cond b (cond c 29 28) (cond d 31 0)) ≤ 31
    go true b c d = omega arith
    go false true true d = omega arith
    go false true false d = omega arith
    go false false c true = omega arith
    go false false c false = omega arith

module _ (y mo d : ℕ) (e : date_exists y mo d ≡ true) where
  within-month : (1 ≤ d) × (d ≤ days_in (epoch + y) mo)
  unfolding date_exists
  within-month = (
    leb-true 1 d (and-true-left (leb 1 d) (leb d (days_in (epoch + y) mo)) e),
    leb-true d (days_in (epoch + y) mo) (and-true-right (leb 1 d) (leb d (days_in (epoch + y) mo)) e),
  )

  pub month-most : mo ≤ 12
  month-most = go (leb mo 12) refl
    where
      go : (b : Bool) → leb mo 12 ≡ b → mo ≤ 12
      go true t = leb-true mo 12 t
      go false t = absurd (omega (arith, within-month.0, within-month.1, no-month (epoch + y) mo (leb-false mo 12 t)))

  pub day-most : d ≤ 31
  day-most = omega (arith, within-month.1, few-days (epoch + y) mo)

pub ruleset dates = (month-most, day-most)
