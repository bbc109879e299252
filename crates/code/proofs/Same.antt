-- Two lists are compared byte by byte. Assumes nothing.
use Rattle.field.proofs.Base.{◌≡◌, refl, sym, ap, ap₂, ◌∙◌, Bool, true, false, List, [], ◌∷◌, ℕ, arith, eq-eqb, eqb-true, eqb}
use Rattle.field.proofs.Ask.{and-true-left, and-true-right}
use Rattle.code.specs.Call.{same_bytes}

pub same_refl : (xs : List ℕ) → same_bytes xs xs ≡ true
unfolding same_bytes
same_refl [] = refl
same_refl (x ∷ xs) = rw (eq-eqb x x refl, same_refl xs)

pub same-equal : (xs ys : List ℕ) → same_bytes xs ys ≡ true → xs ≡ ys
unfolding same_bytes
same-equal [] [] e = refl
same-equal [] (y ∷ ys) e = let z : ◌≡◌ {A = ℕ} 0 1 = cc in absurd (omega arith)
same-equal (x ∷ xs) [] e = let z : ◌≡◌ {A = ℕ} 0 1 = cc in absurd (omega arith)
same-equal (x ∷ xs) (y ∷ ys) e =
    ap₂ ◌∷◌ (eqb-true x y (and-true-left (eqb x y) (same_bytes xs ys) e)) (same-equal xs ys (and-true-right (eqb x y) (same_bytes xs ys) e))

-- a comparison of a and b, which says yes exactly where they are equal, is one of a with the list xs that b is
pub compared : (r : Bool) (a b xs : List ℕ) → b ≡ xs → (r ≡ true → a ≡ b) × (a ≡ b → r ≡ true) → r ≡ same_bytes a xs
compared r a b xs e h = go r (same_bytes a b) h.0 h.1 refl ∙ ap (same_bytes a) e
  where
    go : (r s : Bool) → (r ≡ true → a ≡ b) → (a ≡ b → r ≡ true) → same_bytes a b ≡ s → r ≡ s
    go true true f g t = refl
    go true false f g t = sym (same_refl a) ∙ ap (same_bytes a) (f refl) ∙ t
    go false true f g t = g (same-equal a b t)
    go false false f g t = refl
