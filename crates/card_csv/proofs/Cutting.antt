-- A line without its carriage return, and a text cut into columns. Assumes nothing.
use Rattle.field.proofs.Base.{◌≡◌, refl, sym, ap, ◌∙◌, Bool, true, false, cond, List, [], ◌∷◌, ℕ, suc, ◌+◌, ◌-◌, ◌≤◌, ◌<◌, add-one, arith, ne_eqb}
use Rattle.field.proofs.Base.{eqb, length, get_or, take, drop, length-drop, take_all, not, ltb, ltb-true, ltb-false, drop_of_length-le}
use lib.Pointwise.{pointwise}
use Rattle.std.proofs.Common.{Some, None, Option, MatchOption, Bor, ◌==◌, ◌&&◌, drop-cons}
use Rattle.std.specs.Option.{unwrap_or}
use Rattle.std.specs.List.{position, position_or_len}
use Rattle.card_csv.specs.Text.{separator}
use Rattle.card_csv.specs.Reading.{carriage_return, trimmed, first_column, other_columns}

-- ---- the carriage return

pub trimmed-none : (line : List ℕ) → length line ≡ 0 → line ≡ trimmed line
unfolding trimmed
trimmed-none [] h = refl
trimmed-none (x ∷ xs) h = absurd (omega arith)

module _ (line : List ℕ) where
  pub trimmed-plain : (get_or line (length line - 1) 0 ≡ carriage_return → ⊥) → line ≡ trimmed line
  unfolding trimmed
  trimmed-plain n = ap (λ (b : Bool). cond b (take (length line - 1) line) line) (sym (ne_eqb _ carriage_return n))

-- what `strip_suffix` tests
ends-in-return : (line : List ℕ)
    → pointwise eqb (drop (length line - 1) line) (carriage_return ∷ []) ≡ eqb (get_or line (length line - 1) 0) carriage_return
ends-in-return [] = refl
ends-in-return (x ∷ xs) =
    let last : drop (length xs) (x ∷ xs) ≡ get_or (x ∷ xs) (length xs) 0 ∷ [] =
    drop-cons (x ∷ xs) (length xs) 0 (omega arith) ∙ ap (λ (l : List ℕ). get_or (x ∷ xs) (length xs) 0 ∷ l) (drop_of_length-le xs {i = length xs} (omega arith)) in
    ap (λ (n : ℕ). pointwise eqb (drop n (x ∷ xs)) (carriage_return ∷ [])) less
    ∙ ap (λ (l : List ℕ). pointwise eqb l (carriage_return ∷ [])) last
    ∙ alone (eqb (get_or (x ∷ xs) (length xs) 0) carriage_return)
    ∙ ap (λ (n : ℕ). eqb (get_or (x ∷ xs) n 0) carriage_return) (sym less)
  where
    less : suc (length xs) - 1 ≡ length xs
    less = omega arith

    alone : (b : Bool) → (b && true) ≡ b
    alone true = refl
    alone false = refl

pub stripped : (line : Bor (List ℕ)) (r : Option (Bor (List ℕ)))
    → MatchOption r (pointwise eqb (drop (length line.now - 1) line.now) (carriage_return ∷ []) ≡ false)
    (λ x. (pointwise eqb (drop (length line.now - 1) line.now) (carriage_return ∷ []) ≡ true)
    × (x.now ≡ take (length line.now - 1) line.now)
    × (length x.now + 1 ≡ length line.now))
    → (unwrap_or r line).now ≡ trimmed line.now
unfolding trimmed
stripped line None h =
    ap (λ (b : Bool). cond b (take (length line.now - 1) line.now) line.now) (sym h ∙ ends-in-return line.now)
stripped line (Some x) h =
    h.1 ∙ ap (λ (b : Bool). cond b (take (length line.now - 1) line.now) line.now) (sym h.0 ∙ ends-in-return line.now)

-- ---- the rest of a text

pub rest_all : (xs : List ℕ) (a : ℕ) → take (length xs - a) (drop a xs) ≡ drop a xs
rest_all xs a = take_all (length xs - a) (drop a xs) (simp length-drop (omega arith))

-- ---- where the first column ends

pub column_length : (xs : List ℕ) → length (first_column xs) ≡ position_or_len (λ x. eqb x separator) xs
unfolding first_column
column_length [] = refl
column_length (x ∷ xs) = go (eqb x separator) (column_length xs)
  where
    go : (b : Bool) → length (first_column xs) ≡ position_or_len (λ y. eqb y separator) xs
        → length (cond b [] (x ∷ first_column xs)) ≡ cond (not b) (1 + position_or_len (λ y. eqb y separator) xs) 0
    go true e = refl
    go false e = omega (arith, e)

-- ---- before it and behind it

pub first_taken : (xs : List ℕ) → take (length (first_column xs)) xs ≡ first_column xs
unfolding first_column
first_taken [] = refl
first_taken (x ∷ xs) = go (eqb x separator) (first_taken xs)
  where
    go : (b : Bool) → take (length (first_column xs)) xs ≡ first_column xs
        → take (length (cond b [] (x ∷ first_column xs))) (x ∷ xs) ≡ cond b [] (x ∷ first_column xs)
    go true h = refl
    go false h = ap (λ (l : List ℕ). x ∷ l) h

others-behind : (xs : List ℕ) → length (first_column xs) < length xs → drop (suc (length (first_column xs))) xs ≡ other_columns xs
unfolding first_column other_columns
others-behind [] h = absurd (omega arith)
others-behind (x ∷ xs) h = go (eqb x separator) (others-behind xs) h
  where
    go : (b : Bool) → (length (first_column xs) < length xs → drop (suc (length (first_column xs))) xs ≡ other_columns xs)
        → length (cond b [] (x ∷ first_column xs)) < suc (length xs)
        → drop (suc (length (cond b [] (x ∷ first_column xs)))) (x ∷ xs) ≡ cond b xs (other_columns xs)
    go true k h = refl
    go false k h = k (omega arith)

pub others-dropped : (xs : List ℕ) → length (first_column xs) < length xs → drop (length (first_column xs) + 1) xs ≡ other_columns xs
others-dropped xs h = rw (add-one (length (first_column xs))) (others-behind xs h)

pub others-none : (xs : List ℕ) → length xs ≤ length (first_column xs) → drop (length (first_column xs)) xs ≡ other_columns xs
unfolding first_column other_columns
others-none [] h = refl
others-none (x ∷ xs) h = go (eqb x separator) (others-none xs) h
  where
    go : (b : Bool) → (length xs ≤ length (first_column xs) → drop (length (first_column xs)) xs ≡ other_columns xs)
        → suc (length xs) ≤ length (cond b [] (x ∷ first_column xs))
        → drop (length (cond b [] (x ∷ first_column xs))) (x ∷ xs) ≡ cond b xs (other_columns xs)
    go true k h = absurd (omega arith)
    go false k h = k (omega arith)

-- ---- the place of the first comma

abbrev pub comma_at : List ℕ → Option ℕ
comma_at xs = position (λ x. x == separator) xs

comma_is : (xs : List ℕ) → comma_at xs ≡ cond (ltb (length (first_column xs)) (length xs)) (Some (length (first_column xs))) None
comma_is xs = ap (λ (n : ℕ). cond (ltb n (length xs)) (Some n) None) (sym (column_length xs))

pub cut-at : (xs : List ℕ) (i : ℕ) → comma_at xs ≡ Some i → (take i xs ≡ first_column xs) × (drop (i + 1) xs ≡ other_columns xs)
cut-at xs i e = go (ltb (length (first_column xs)) (length xs)) refl (sym (comma_is xs) ∙ e)
  where
    go : (b : Bool) → ltb (length (first_column xs)) (length xs) ≡ b → cond b (Some (length (first_column xs))) None ≡ Some i
        → (take i xs ≡ first_column xs) × (drop (i + 1) xs ≡ other_columns xs)
    go true t g =
        let same : length (first_column xs) ≡ i = cc in (
          ap (λ (n : ℕ). take n xs) (sym same) ∙ first_taken xs,
          ap (λ (n : ℕ). drop (n + 1) xs) (sym same) ∙ others-dropped xs (ltb-true _ _ t),
        )
    go false t g = let z : ◌≡◌ {A = ℕ} 0 1 = cc in absurd (omega arith)

pub cut-none : (xs : List ℕ) → comma_at xs ≡ None → (xs ≡ first_column xs) × ([] ≡ other_columns xs)
cut-none xs e = go (ltb (length (first_column xs)) (length xs)) refl (sym (comma_is xs) ∙ e)
  where
    go : (b : Bool) → ltb (length (first_column xs)) (length xs) ≡ b → cond b (Some (length (first_column xs))) None ≡ None
        → (xs ≡ first_column xs) × ([] ≡ other_columns xs)
    go true t g = let z : ◌≡◌ {A = ℕ} 0 1 = cc in absurd (omega arith)
    go false t g =
        let long = ltb-false _ _ t in (
          sym (take_all (length (first_column xs)) xs long) ∙ first_taken xs,
          sym (drop_of_length-le xs long) ∙ others-none xs long,
        )
