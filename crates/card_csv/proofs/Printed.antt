-- Printed numbers and dates: which bytes they do not have, and that they are read back. Assumes nothing.
use Rattle.field.proofs.Base.{◌≡◌, refl, ap, ap₂, ◌∙◌, Bool, true, false, cond, ◌&&◌, List, [], ◌∷◌, ◌++◌, ℕ, zero, suc, ◌+◌, ◌-◌, ◌*◌, ◌/◌, ◌%◌, ◌≤◌}
use Rattle.field.proofs.Base.{◌<◌, arith, eq-eqb, ne_eqb, eqb-true, eqb-false, lt-ltb, le-leb, ltb-true, eqb, ltb, length, length-append}
use Rattle.std.proofs.Common.{Ok, Err, Some, None, Option}
use Rattle.field.specs.Field.{order}
use Rattle.field.proofs.Ask.{and-true-left, and-true-right}
use Rattle.code.specs.Word.{at}
use Rattle.code.specs.Demands.{occurs}
use Rattle.card.specs.Listing.{digits_from, decimal}
use Rattle.card.proofs.Writing.{length-decimal}
use Rattle.sheet.specs.Calendar.{epoch, date_exists}
use Rattle.sheet.specs.Sheet.{sheet_width, year_at, month_at, day_at}
use Rattle.report.specs.Window.{date_of}
use Rattle.report.specs.Table.{two_digits, date_text, hyphen}
use Rattle.card_csv.specs.declared.Fault.{Fault}
use Rattle.card_csv.specs.declared.fields.SheetDate.{SheetDate}
use Rattle.card_csv.specs.Reading.{is_digit, all_digits, is_decimal, decimal_from, Symbol, symbol_in, two_at, hundreds, year_in, date_from, date_of_parts, has_hyphens, date_in}
use Rattle.card_csv.proofs.Digits.{tens-ones, two_digits_lem, year_digits, month-most, day-most}

-- ---- bytes that a text does not have

pub occurs-append : (c : ℕ) (xs ys : List ℕ) → occurs c (xs ++ ys) ≡ occurs c xs + occurs c ys
unfolding occurs
occurs-append c [] ys = omega arith
occurs-append c (x ∷ xs) ys = omega (arith, occurs-append c xs ys)

-- the text does not have the byte c
abbrev pub Lacks : ℕ → List ℕ → Type 0
Lacks c xs = occurs c xs ≡ 0

pub lacks-append : (c : ℕ) (xs ys : List ℕ) → Lacks c xs → Lacks c ys → Lacks c (xs ++ ys)
lacks-append c xs ys l r = omega (arith, occurs-append c xs ys)

pub lacks-cons : (c x : ℕ) (xs : List ℕ) → (c ≡ x → ⊥) → Lacks c xs → Lacks c (x ∷ xs)
unfolding occurs
lacks-cons c x xs n l = rw (ne_eqb c x n) (omega arith)

-- a text that lacks the byte c has another first byte, and lacks it behind that
module _ (c x : ℕ) (xs : List ℕ) (e : Lacks c (x ∷ xs)) where
  pub lacks-first : c ≡ x → ⊥
  unfolding occurs
  lacks-first t =
      let one : ◌≡◌ {A = ℕ} (cond (eqb c x) 1 0) 1 = ap (λ (b : Bool). cond b 1 0) (eq-eqb c x t) in
      omega (arith, one, e)

  pub lacks_rest : Lacks c xs
  unfolding occurs
  lacks_rest = omega (arith, e)

-- ---- digits

-- a digit is none of the bytes below 48
lacks-digits : (c : ℕ) → c < 48 → (k n : ℕ) → Lacks c (digits_from k n)
unfolding digits_from occurs
lacks-digits c h zero n = refl
lacks-digits c h (suc k) n = go (ltb n 10) (lacks-digits c h k (n / 10))
  where
    go : (b : Bool) → Lacks c (digits_from k (n / 10)) → Lacks c (cond b ((48 + n) ∷ []) (digits_from k (n / 10) ++ ((48 + n % 10) ∷ [])))
    go true l = lacks-cons c (48 + n) [] (λ e. omega arith) refl
    go false l =
        lacks-append c (digits_from k (n / 10)) ((48 + n % 10) ∷ []) l (lacks-cons c (48 + n % 10) [] (λ e. omega arith) refl)

pub lacks-decimal : (c : ℕ) → c < 48 → (n : ℕ) → Lacks c (decimal n)
lacks-decimal c h n = lacks-digits c h 20 n

lacks-two : (c : ℕ) → c < 48 → (n : ℕ) → Lacks c (two_digits n)
unfolding two_digits
lacks-two c h n = go (ltb n 10)
  where
    go : (b : Bool) → Lacks c (cond b (48 ∷ decimal n) (decimal n))
    go true = lacks-cons c 48 (decimal n) (λ e. omega arith) (lacks-decimal c h n)
    go false = lacks-decimal c h n

-- a date has bytes from the hyphen on
pub lacks-date : (c : ℕ) → c < 45 → (ss : List ℕ) → Lacks c (date_text (date_of ss))
unfolding date_text
lacks-date c h ss =
    let day = lacks-two c (omega arith) (at ss day_at) in
    let month = lacks-two c (omega arith) (at ss month_at) in
    lacks-append c (decimal (at ss year_at + 2000)) (hyphen ∷ two_digits (at ss month_at) ++ (hyphen ∷ two_digits (at ss day_at)))
    (lacks-decimal c (omega arith) (at ss year_at + 2000))
    (lacks-cons c hyphen (two_digits (at ss month_at) ++ (hyphen ∷ two_digits (at ss day_at))) (λ e. omega arith)
    (lacks-append c (two_digits (at ss month_at)) (hyphen ∷ two_digits (at ss day_at)) month
    (lacks-cons c hyphen (two_digits (at ss day_at)) (λ e. omega arith) day)))

-- ---- a number is a number

digit-is : (d : ℕ) → d ≤ 9 → is_digit (48 + d) ≡ true
unfolding is_digit
digit-is d h = simp (le-leb 48 (48 + d) (omega arith), le-leb (48 + d) 57 (omega arith))

digits_append : (xs ys : List ℕ) → all_digits xs ≡ true → all_digits ys ≡ true → all_digits (xs ++ ys) ≡ true
unfolding all_digits
digits_append [] ys h k = k
digits_append (x ∷ xs) ys h k =
    ap₂ ◌&&◌ (and-true-left (is_digit x) (all_digits xs) h) (digits_append xs ys (and-true-right (is_digit x) (all_digits xs) h) k)

digits-one : (d : ℕ) → d ≤ 9 → all_digits ((48 + d) ∷ []) ≡ true
unfolding all_digits
digits-one d h = ap (λ (b : Bool). b && true) (digit-is d h)

all_digits_lem : (k n : ℕ) → all_digits (digits_from k n) ≡ true
unfolding digits_from all_digits
all_digits_lem zero n = refl
all_digits_lem (suc k) n = go (ltb n 10) refl (all_digits_lem k (n / 10))
  where
    go : (b : Bool) → ltb n 10 ≡ b → all_digits (digits_from k (n / 10)) ≡ true
        → all_digits (cond b ((48 + n) ∷ []) (digits_from k (n / 10) ++ ((48 + n % 10) ∷ []))) ≡ true
    go true t l = let small = ltb-true n 10 t in digits-one n (omega arith)
    go false t l = digits_append (digits_from k (n / 10)) ((48 + n % 10) ∷ []) l (digits-one (n % 10) (omega arith))

some-digit : (k n : ℕ) → 1 ≤ length (digits_from (suc k) n)
unfolding digits_from
some-digit k n = go (ltb n 10)
  where
    go : (b : Bool) → 1 ≤ length (cond b ((48 + n) ∷ []) (digits_from k (n / 10) ++ ((48 + n % 10) ∷ [])))
    go true = omega arith
    go false = simp length-append (omega arith)

pub decimal-number : (n : ℕ) → is_decimal 20 (decimal n) ≡ true
unfolding is_decimal
decimal-number n =
    simp (le-leb 1 (length (decimal n)) (some-digit 19 n), le-leb (length (decimal n)) 20 (length-decimal n), all_digits_lem 20 n)

-- ---- a symbol is read back: a test that is computed

is_value : ℕ → Symbol → Bool
is_value n (Ok m) = eqb m n
is_value n (Err f) = false

value-is : (n : ℕ) (s : Symbol) → is_value n s ≡ true → s ≡ Ok n
unfolding is_value
value-is n (Ok m) e = ap Ok (eqb-true m n e)
value-is n (Err f) e = let z : ◌≡◌ {A = ℕ} 0 1 = cc in absurd (omega arith)

back_below : Fault → ℕ → Bool
back_below f zero = true
back_below f (suc n) = is_value n (symbol_in f (decimal n)) && back_below f n

all_back : (f : Fault) → back_below f 128 ≡ true
unfolding back_below is_value symbol_in is_decimal all_digits is_digit decimal_from digits_from
all_back f = refl

each_back : (f : Fault) (k n : ℕ) → back_below f k ≡ true → n < k → symbol_in f (decimal n) ≡ Ok n
unfolding back_below
each_back f zero n e h = absurd (omega arith)
each_back f (suc k) n e h =
    go (eqb n k) refl (each_back f k n (and-true-right (is_value k (symbol_in f (decimal k))) (back_below f k) e))
    (value-is k _ (and-true-left (is_value k (symbol_in f (decimal k))) (back_below f k) e))
  where
    go : (b : Bool) → eqb n k ≡ b → (n < k → symbol_in f (decimal n) ≡ Ok n) → symbol_in f (decimal k) ≡ Ok k → symbol_in f (decimal n) ≡ Ok n
    go true t lower here = rw (eqb-true n k t) here
    go false t lower here = lower (omega (arith, eqb-false n k t))

pub symbol-back : (f : Fault) (n : ℕ) → n < 128 → symbol_in f (decimal n) ≡ Ok n
symbol-back f n h = each_back f 128 n (all_back f) h

-- ---- a date is read back

-- the digits of n stand at place i
two_back : (xs : List ℕ) (i n : ℕ) → n < 100 → at xs i ≡ 48 + n / 10 → at xs (i + 1) ≡ 48 + n % 10 → two_at xs i ≡ Some n
unfolding two_at
two_back xs i n h a b =
    let first : is_digit (at xs i) ≡ true = ap is_digit a ∙ digit-is (n / 10) (omega arith) in
    let second : is_digit (at xs (i + 1)) ≡ true = ap is_digit b ∙ digit-is (n % 10) (omega arith) in
    let value : (at xs i - 48) * 10 + (at xs (i + 1) - 48) ≡ n = omega (arith, a, b) in
    ap₂ (λ (p q : Bool). cond (p && q) (Some ((at xs i - 48) * 10 + (at xs (i + 1) - 48))) None) first second ∙ ap Some value

module _ (y mo d : ℕ) (low : y < 128) (e : date_exists y mo d ≡ true) where
  -- the ten bytes
  bytes : List ℕ
  bytes =
      (tens-ones (20 + y / 100) ++ tens-ones (y % 100)) ++ (hyphen ∷ tens-ones mo ++ (hyphen ∷ tens-ones d))

  date-bytes : decimal (y + 2000) ++ (hyphen ∷ two_digits mo ++ (hyphen ∷ two_digits d)) ≡ bytes
  unfolding bytes
  date-bytes =
      let month = month-most y mo d e in
      let day = day-most y mo d e in
      ap₂ (λ (a b : List ℕ). a ++ (hyphen ∷ two_digits mo ++ (hyphen ∷ b))) (year_digits y (omega arith)) (two_digits_lem d (omega (arith, day)))
      ∙ ap₂ (λ (a b : List ℕ). (a ++ b) ++ (hyphen ∷ two_digits mo ++ (hyphen ∷ tens-ones d))) (two_digits_lem (20 + y / 100) (omega arith))
      (two_digits_lem (y % 100) (omega arith))
      ∙ ap (λ (b : List ℕ). (tens-ones (20 + y / 100) ++ tens-ones (y % 100)) ++ (hyphen ∷ b ++ (hyphen ∷ tens-ones d)))
      (two_digits_lem mo (omega (arith, month)))

  year-back : year_in bytes ≡ Some (y + 2000)
  unfolding year_in bytes
  year-back =
      let a : two_at bytes 0 ≡ Some (20 + y / 100) = two_back bytes 0 (20 + y / 100) (omega arith) refl refl in
      let b : two_at bytes 2 ≡ Some (y % 100) = two_back bytes 2 (y % 100) (omega arith) refl refl in
      let value : (20 + y / 100) * 100 + y % 100 ≡ y + 2000 = omega arith in
      ap₂ hundreds a b ∙ ap Some value

  abbrev shown : ℕ → Bool → Option SheetDate
  shown n b = cond b (Some (record { year = n; month = mo; day = d })) None

  from_back : date_from (y + 2000) mo d ≡ Some (record { year = y; month = mo; day = d })
  unfolding date_from
  from_back =
      let less : y + 2000 - epoch ≡ y = omega arith in
      ap₂ (λ (t u : Bool). shown (y + 2000 - epoch) (t && (u && date_exists (y + 2000 - epoch) mo d)))
      (le-leb epoch (y + 2000) (omega arith)) (lt-ltb (y + 2000) (epoch + order sheet_width) (omega arith))
      ∙ ap (λ (n : ℕ). shown n (date_exists n mo d)) less
      ∙ ap (shown y) e

  bytes_back : date_in bytes ≡ Some (record { year = y; month = mo; day = d })
  unfolding date_in has_hyphens bytes
  bytes_back =
      let month : two_at bytes 5 ≡ Some mo = two_back bytes 5 mo (omega (arith, month-most y mo d e)) refl refl in
      let day : two_at bytes 8 ≡ Some d = two_back bytes 8 d (omega (arith, day-most y mo d e)) refl refl in
      ap (λ (n : Option ℕ). date_of_parts n (two_at bytes 5) (two_at bytes 8)) year-back ∙ ap₂ (date_of_parts (Some (y + 2000))) month day ∙ from_back

  pub date-back : date_in (decimal (y + 2000) ++ (hyphen ∷ two_digits mo ++ (hyphen ∷ two_digits d))) ≡ Some (record { year = y; month = mo; day = d })
  date-back = ap date_in date-bytes ∙ bytes_back
