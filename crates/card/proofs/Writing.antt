-- Texts that grow: one behind another is both in one, and a number's digits one by one. Assumes nothing.
use Rattle.field.proofs.Base.{rules, lt-ltb, le-ltb, ◌≡◌, sym, ap, subst, ◌∙◌, Bool, cond, true, false, List, [], ◌∷◌, ◌++◌, append_assoc, append-nil}
use Rattle.field.proofs.Base.{ℕ, zero, suc, ◌+◌, ◌/◌, ◌%◌, ◌^◌, ◌≤◌, zero-le, ◌<◌, arith, ltb, length, take, drop, ◌-◌, length-append, length-take}
use Rattle.field.proofs.Base.{length-drop, take_at, drop_at, drop-drop}
use Prim.Native.Nat.{suc-le-suc}
use native.Mathlib.Nat.{pow-suc, div-lt_iff_lt-mul}
use Rattle.card.specs.Listing.{digits_from, decimal}
use Rattle.std.specs.Borrow.{GName}
use Rattle.card.specs.Text.{Written, Appends, Covers}

-- ---- the digits of a number

-- the last digit as text
abbrev pub last_digit : ℕ → List ℕ
last_digit n = (48 + n % 10) ∷ []

module _ (k n : ℕ) where
  digits-one : n < 10 → digits_from (suc k) n ≡ (48 + n) ∷ []
  unfolding digits_from
  digits-one h = rw (lt-ltb n 10 h)

  digits_more : 10 ≤ n → digits_from (suc k) n ≡ digits_from k (n / 10) ++ last_digit n
  unfolding digits_from
  digits_more h = rw (le-ltb n 10 h)

-- a larger bound on the number of digits changes nothing
digits_same : (k n : ℕ) → n < 10 ^ suc k → digits_from (suc (suc k)) n ≡ digits_from (suc k) n
unfolding digits_from
digits_same zero n h = rw (lt-ltb n 10 h)
digits_same (suc k) n h =
    let fewer : n / 10 < 10 ^ suc k = (div-lt_iff_lt-mul {k = 10} (omega arith)).1 (rw (pow-suc 10 (suc k)) at h) in
    ap (λ (l : List ℕ). cond (ltb n 10) ((48 + n) ∷ []) (l ++ last_digit n)) (digits_same k (n / 10) fewer)

pub decimal-one : (n : ℕ) → n < 10 → decimal n ≡ (48 + n) ∷ []
decimal-one = digits-one 19

pub decimal-more : (n : ℕ) → 10 ≤ n → n < 2 ^ 64 → decimal n ≡ decimal (n / 10) ++ last_digit n
decimal-more n large h = digits_more 19 n large ∙ ap (λ (l : List ℕ). l ++ last_digit n) (sym (digits_same 18 (n / 10) (omega arith)))

pub length_one : (n : ℕ) → n < 10 → length (decimal n) ≡ 1
length_one n h = ap length (decimal-one n h)

length_digits : (k n : ℕ) → length (digits_from k n) ≤ k
unfolding digits_from
length_digits zero n = zero-le
length_digits (suc k) n = either (ltb n 10) (48 + n) (48 + n % 10) (digits_from k (n / 10)) (length_digits k (n / 10))
  where
    either : (b : Bool) (x y : ℕ) (l : List ℕ) → length l ≤ k → length (cond b (x ∷ []) (l ++ y ∷ [])) ≤ suc k
    either true x y l h = suc-le-suc zero-le
    either false x y l h = simp length-append (omega arith)

pub length-decimal : (n : ℕ) → length (decimal n) ≤ 20
length-decimal = length_digits 20

-- ---- text behind text

-- what stands behind both of two texts
pub rest_both : (a b : ℕ) (r : List ℕ) → drop (a + b) r ≡ drop b (drop a r)
rest_both a b r = sym (drop-drop b a r)

-- what the functions that write text need of it
pub ruleset appending = (length-decimal, length-append, append_assoc, append-nil, rest_both)

-- and of the digits of a number
pub ruleset digits = (appending, decimal-one, decimal-more)

-- one text behind another is both in one
pub appends-on : {a b c : Written} {xs ys : List ℕ} → Appends a xs b → Appends b ys c → Appends a (xs ++ ys) c
appends-on w v = search (rules, appending)

-- no text
pub appends-none : (a : Written) → Appends a [] a
appends-none a = search (rules, appending)

-- the same text, said in another way
pub appends-as : {a b : Written} {xs ys : List ℕ} → xs ≡ ys → Appends a xs b → Appends a ys b
appends-as {a} {b} {xs} {ys} e w = subst (λ (zs : List ℕ). Appends a zs b) e w

-- the bytes xs put into the memory bs behind its first n
module _ (bs xs l : List ℕ) (n : ℕ) (h : n + length xs ≤ length bs) (e : l ≡ take n bs ++ (xs ++ drop (n + length xs) bs)) where
  head-long : length (take n bs ++ xs) ≡ n + length xs
  head-long = simp (length-append, length-take) (omega arith)

  put-split : l ≡ (take n bs ++ xs) ++ drop (n + length xs) bs
  put-split = e ∙ sym (append_assoc (take n bs) xs (drop (n + length xs) bs))

  put-front : take (n + length xs) l ≡ take n bs ++ xs
  put-front = ap (take (n + length xs)) put-split ∙ take_at (take n bs ++ xs) (drop (n + length xs) bs) (n + length xs) head-long

  put-rest : drop (n + length xs) l ≡ drop (length xs) (drop n bs)
  put-rest =
      ap (drop (n + length xs)) put-split
      ∙ drop_at (take n bs ++ xs) (drop (n + length xs) bs) (n + length xs) head-long
      ∙ rest_both n (length xs) bs

  put-long : length l ≡ length bs
  put-long = ap length put-split ∙ length-append (take n bs ++ xs) (drop (n + length xs) bs) ∙ simp length-drop (omega (arith, head-long))

  pub appends-put : (v : Written) (a : GName) → record { bytes = take n bs; room = length bs - n; rest = drop n bs; lent = a } ≡ v → (m : ℕ) → m ≡ n + length xs
      → Appends v xs (record { bytes = take m l; room = length l - m; rest = drop m l; lent = a })
  appends-put v a f m g = record {
    lent = ap (λ (w : Written). w.lent) f;
    bytes = ap (λ (k : ℕ). take k l) g ∙ put-front ∙ ap (λ (w : Written). w.bytes ++ xs) f;
    room = sym (ap (λ (w : Written). w.room) f) ∙ omega (arith, put-long, g, h);
    rest = ap (λ (k : ℕ). drop k l) g ∙ put-rest ∙ ap (λ (w : Written). drop (length xs) w.rest) f;
  }

-- the byte b put over the one behind the first n
pub covers-put : (bs l : List ℕ) (b n : ℕ) → n + 1 ≤ length bs → l ≡ take n bs ++ (b ∷ drop (n + 1) bs)
    → (v : Written) (a : GName) → record { bytes = take n bs; room = length bs - n; rest = drop n bs; lent = a } ≡ v → (m : ℕ) → m ≡ n
    → Covers v (record { bytes = take m l; room = length l - m; rest = drop m l; lent = a })
covers-put bs l b n h e v a f m g = record {
  lent = ap (λ (w : Written). w.lent) f;
  bytes =
      ap (λ (k : ℕ). take k l) g
      ∙ ap (take n) e
      ∙ take_at (take n bs) (b ∷ drop (n + 1) bs) n (simp length-take (omega arith))
      ∙ ap (λ (w : Written). w.bytes) f;
  room = omega (arith, put-long bs (b ∷ []) l n h e, g) ∙ ap (λ (w : Written). w.room) f;
  rest =
      ap (λ (k : ℕ). drop 1 (drop k l)) g
      ∙ sym (rest_both n 1 l)
      ∙ put-rest bs (b ∷ []) l n h e
      ∙ ap (λ (w : Written). drop 1 w.rest) f;
}
