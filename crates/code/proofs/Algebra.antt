-- Facts that the laws of the field give: sums that cancel, squares, powers of powers. Assumes nothing.
use Rattle.field.proofs.Base.{◌≡◌, sym, ap, ◌∙◌, ℕ, ◌*◌, ◌<◌}
use native.Mathlib.Nat.{mul_comm}
use Rattle.field.specs.Polynomial.{add}
use Rattle.field.specs.Field.{order, product, power}
use Rattle.field.proofs.Laws.{IsField}

module _ {m : ℕ} (F : IsField m) where
  pub add-cancel : (a b : ℕ) → add a (add a b) ≡ b
  add-cancel a b = sym (F.add_assoc a a b) ∙ ap (λ (x : ℕ). add x b) (F.add-self a) ∙ F.zero-add b

  pub add-of-eq : (a b : ℕ) → a ≡ b → add a b ≡ 0
  add-of-eq a b e = ap (λ (x : ℕ). add x b) e ∙ F.add-self b

  pub square : (x : ℕ) → x < order m → power m x 2 ≡ product m x x
  square x h = F.power-suc x 1 ∙ ap (product m x) (F.power-one x h)

  -- x^(k·i) is (x^i)^k
  pub power-times : (x i k : ℕ) → power m x (k * i) ≡ power m (power m x i) k
  power-times x i k = ap (power m x) (mul_comm k i) ∙ sym (F.power-power x i k)
