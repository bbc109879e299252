-- Where a line of a text ends. Assumes nothing.
use Rattle.field.proofs.Base.{◌≡◌, sym, ap, ◌∙◌, Bool, true, false, cond, not, List, [], ◌∷◌, ◌++◌, append_assoc, append-nil, ℕ, suc, ◌+◌, ◌≤◌, ◌<◌}
use Rattle.field.proofs.Base.{refl, subst, add-one, arith, eqb, ltb, ltb-true, ltb-false, length, take, drop}
use Rattle.std.proofs.Common.{Some, None, Option, ◌==◌}
use Rattle.std.specs.List.{position, position_or_len}
use Rattle.card.specs.Listing.{newline}
use Rattle.card_csv.specs.Making.{last_line, lines_from}
use Rattle.card_csv.specs.inner.Taking.{EndsLine}

-- the place of the first newline, or the length
abbrev line_length : List ℕ → ℕ
line_length xs = position_or_len (λ x. eqb x newline) xs

-- ---- of the line so much was seen before

line-ends : (line text more : List ℕ) → line_length text < length text
    → lines_from line (text ++ more) ≡ (line ++ take (line_length text) text) ∷ lines_from [] (drop (suc (line_length text)) text ++ more)
unfolding lines_from
line-ends line [] more h = absurd (omega arith)
line-ends line (x ∷ xs) more h = go (eqb x newline) (line-ends (line ++ (x ∷ [])) xs more) h
  where
    go : (b : Bool)
        → (line_length xs < length xs
        → lines_from (line ++ (x ∷ [])) (xs ++ more)
        ≡ ((line ++ (x ∷ [])) ++ take (line_length xs) xs) ∷ lines_from [] (drop (suc (line_length xs)) xs ++ more))
        → cond (not b) (1 + line_length xs) 0 < suc (length xs)
        → cond b (line ∷ lines_from [] (xs ++ more)) (lines_from (line ++ (x ∷ [])) (xs ++ more))
        ≡ (line ++ take (cond (not b) (1 + line_length xs) 0) (x ∷ xs))
        ∷ lines_from [] (drop (suc (cond (not b) (1 + line_length xs) 0)) (x ∷ xs) ++ more)
    go true k l = ap (λ (ys : List ℕ). ys ∷ lines_from [] (xs ++ more)) (sym (append-nil line))
    go false k l =
        let one : 1 + line_length xs ≡ suc (line_length xs) = omega arith in
        k (omega (arith, l))
        ∙ ap (λ (ys : List ℕ). ys ∷ lines_from [] (drop (suc (line_length xs)) xs ++ more)) (append_assoc line (x ∷ []) (take (line_length xs) xs))
        ∙ ap (λ (n : ℕ). (line ++ take n (x ∷ xs)) ∷ lines_from [] (drop (suc n) (x ∷ xs) ++ more)) (sym one)

line-endless : (line text : List ℕ) → length text ≤ line_length text → lines_from line text ≡ last_line (line ++ text)
unfolding lines_from
line-endless line [] h = ap last_line (sym (append-nil line))
line-endless line (x ∷ xs) h = go (eqb x newline) (line-endless (line ++ (x ∷ [])) xs) h
  where
    go : (b : Bool) → (length xs ≤ line_length xs → lines_from (line ++ (x ∷ [])) xs ≡ last_line ((line ++ (x ∷ [])) ++ xs))
        → suc (length xs) ≤ cond (not b) (1 + line_length xs) 0
        → cond b (line ∷ lines_from [] xs) (lines_from (line ++ (x ∷ [])) xs) ≡ last_line (line ++ (x ∷ xs))
    go true k l = absurd (omega arith)
    go false k l = k (omega (arith, l)) ∙ ap last_line (append_assoc line (x ∷ []) xs)

-- ---- the line with which a text begins

abbrev pub newline_at : List ℕ → Option ℕ
newline_at xs = position (λ x. x == newline) xs

pub line-cut : (text : List ℕ) (n : ℕ) → newline_at text ≡ Some n → EndsLine text n
line-cut text n e = go (ltb (line_length text) (length text)) refl e
  where
    go : (b : Bool) → ltb (line_length text) (length text) ≡ b → cond b (Some (line_length text)) None ≡ Some n → EndsLine text n
    go true t g =
        let same : line_length text ≡ n = cc in
        let inside = ltb-true (line_length text) (length text) t in
        subst (EndsLine text) same (record {
          inside = inside;
          cut = λ more. rw (add-one (line_length text)) (line-ends [] text more inside);
        })
    go false t g = let z : ◌≡◌ {A = ℕ} 0 1 = cc in absurd (omega arith)

pub line-none : (text : List ℕ) → newline_at text ≡ None → lines_from [] text ≡ last_line text
line-none text e = go (ltb (line_length text) (length text)) refl e
  where
    go : (b : Bool) → ltb (line_length text) (length text) ≡ b → cond b (Some (line_length text)) None ≡ None → lines_from [] text ≡ last_line text
    go true t g = let z : ◌≡◌ {A = ℕ} 0 1 = cc in absurd (omega arith)
    go false t g = line-endless [] text (ltb-false (line_length text) (length text) t)
