-- A definition by `cond`, at the way out that the tests have taken. Assumes nothing.
use Rattle.field.proofs.Base.{◌≡◌, refl, sym, ap, ◌∙◌, Bool, true, false, cond, ◌⊎◌, inl, inr, ℕ, eq-eqb, ne_eqb, eqb}

module _ {A : Type 0} where
  -- two numbers are equal, or not
  pub equal-yes : (m n : ℕ) (x y : A) → m ≡ n → x ≡ cond (eqb m n) x y
  equal-yes m n x y h = sym (ap (λ (s : Bool). cond s x y) (eq-eqb m n h))

  pub equal-no : (m n : ℕ) (x y z : A) → (m ≡ n → ⊥) → z ≡ y → z ≡ cond (eqb m n) x y
  equal-no m n x y z h rest = rest ∙ sym (ap (λ (s : Bool). cond s x y) (ne_eqb m n h))

  -- the one or the other
  pub either-way : (b : Bool) (x y : A) → (cond b x y ≡ x) ⊎ (cond b x y ≡ y)
  either-way true x y = inl refl
  either-way false x y = inr refl
