-- Arrays of places by their numbers, and the loops over them: each is a loop over numbers. Assumes nothing.
use Rattle.field.proofs.Base.{◌≡◌, refl, sym, ap, ap₂, ◌∙◌, ◌||◌, List, [], ◌∷◌, ◌++◌, map, ℕ, zero, suc, ◌+◌, ◌≤◌, ◌<◌, add-one, arith, length, get_or}
use Rattle.field.proofs.Base.{set, take, take_all, take_at, eqb}
use Rattle.std.specs.List.{list_any}
use lib.ListN.{length-map}
use lib.Seq.{take-suc, take-suc-set}
use Rattle.code.specs.declared.word.Place.{Place}
use Rattle.code.specs.Erasure.{member}
use Rattle.code.specs.inner.Place.{numbers}
use Rattle.code.specs.inner.Matrix.{unknowns}
use Rattle.code.proofs.Questions.{eqb-swap}

-- ---- a place is read, there are as many numbers as places, and a place is stored

-- the number of place i, as the code reads it
abbrev pub number : List Place → ℕ → ℕ
number ps i = (get_or ps i (record { 0 = 0 })).0

pub numbers-at : (ps : List Place) (i : ℕ) → number ps i ≡ get_or (numbers ps) i 0
numbers-at [] i = refl
numbers-at (p ∷ ps) zero = refl
numbers-at (p ∷ ps) (suc i) = numbers-at ps i

pub numbers-length : (ps : List Place) → length (numbers ps) ≡ length ps
numbers-length [] = refl
numbers-length (p ∷ ps) = ap suc (numbers-length ps)

pub numbers-whole : (ps : List Place) (n : ℕ) → length ps ≤ n → take n (numbers ps) ≡ numbers ps
numbers-whole ps n h = take_all n (numbers ps) (omega (arith, numbers-length ps))

pub numbers-set : (ps : List Place) (i : ℕ) (q : Place) → numbers (set ps i q) ≡ set (numbers ps) i q.0
numbers-set [] i q = refl
numbers-set (p ∷ ps) zero q = refl
numbers-set (p ∷ ps) (suc i) q = ap (λ (xs : List ℕ). p.0 ∷ xs) (numbers-set ps i q)

-- an array of places that a struct holds: its length is known of what the machine has of each
pub held-length : (X : Type 0) (f : Place → X) (ps : List Place) (n : ℕ) → length (map f ps) ≡ n → length ps ≡ n
held-length X f ps n e = sym (length-map ps f) ∙ e

-- the first place, the first two
pub first-place : (ps : List Place) (n p : ℕ) → length ps ≡ unknowns → n ≡ 1 → p ≡ get_or (numbers ps) 0 0 → take n (numbers ps) ≡ p ∷ []
first-place [] n p l e v = absurd (omega arith)
first-place (x ∷ ps) n p l e v = ap (λ (k : ℕ). take k (x.0 ∷ numbers ps)) e ∙ ap (λ (a : ℕ). a ∷ []) (sym v)

pub first-places : (ps : List Place) (n p q : ℕ) → length ps ≡ unknowns → n ≡ 2 → p ≡ get_or (numbers ps) 0 0 → q ≡ get_or (numbers ps) 1 0
    → take n (numbers ps) ≡ p ∷ q ∷ []
first-places [] n p q l e v w = absurd (omega arith)
first-places (x ∷ []) n p q l e v w = absurd (omega arith)
first-places (x ∷ y ∷ ps) n p q l e v w = ap (λ (k : ℕ). take k (x.0 ∷ y.0 ∷ numbers ps)) e ∙ ap₂ (λ (a b : ℕ). a ∷ b ∷ []) (sym v) (sym w)

-- ---- copying the places ps behind a place with the number p

numbers-append : (ps qs : List Place) → numbers (ps ++ qs) ≡ numbers ps ++ numbers qs
numbers-append [] qs = refl
numbers-append (p ∷ ps) qs = ap (λ (xs : List ℕ). p.0 ∷ xs) (numbers-append ps qs)

pub numbers-take : (n : ℕ) (ps : List Place) → numbers (take n ps) ≡ take n (numbers ps)
numbers-take zero ps = refl
numbers-take (suc n) [] = refl
numbers-take (suc n) (p ∷ ps) = ap (λ (xs : List ℕ). p.0 ∷ xs) (numbers-take n ps)

pub copied-behind : (p : ℕ) (ps a rest : List Place) → a ≡ ps → take (length ps + 1) (p ∷ numbers (a ++ rest)) ≡ p ∷ numbers ps
copied-behind p ps a rest e =
    ap₂ (λ (k : ℕ) (qs : List Place). take k (p ∷ numbers (qs ++ rest))) (add-one (length ps)) e
    ∙ ap (λ (xs : List ℕ). p ∷ xs)
    (ap (take (length ps)) (numbers-append ps rest) ∙ take_at (numbers ps) (numbers rest) (length ps) (numbers-length ps))

-- ---- making places of the numbers xs

pub made-on : (xs : List ℕ) (out : List Place) (i : ℕ) (q : Place) → take i (numbers out) ≡ take i xs → i < length xs → i < length out
    → q.0 ≡ get_or xs i 0 → take (i + 1) (numbers (set out i q)) ≡ take (i + 1) xs
made-on xs out i q e h l v =
    ap₂ take (add-one i) (numbers-set out i q)
    ∙ take-suc-set (numbers out) i q.0 (omega (arith, numbers-length out))
    ∙ ap₂ (λ (ys : List ℕ) (y : ℕ). ys ++ y ∷ []) e v
    ∙ sym (take-suc xs i 0 h)
    ∙ ap (λ (n : ℕ). take n xs) (sym (add-one i))

-- ---- looking for the place with the number a

pub member-places : (a : ℕ) (ps : List Place) → list_any (λ (q : Place). eqb q.0 a) ps ≡ member a (numbers ps)
member-places a [] = refl
member-places a (p ∷ ps) = ap₂ ◌||◌ (eqb-swap p.0 a) (member-places a ps)
