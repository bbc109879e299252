-- An array that a closure makes, index by index, and that changes no capture: what each call gives is at its index. Assumes nothing.
use Rattle.field.proofs.Base.{◌≡◌, ◌≢◌, refl, sym, subst, List, ℕ, zero, suc, ◌+◌, ◌≤◌, ◌<◌, ℕ_discrete, arith, get_or}
use Rattle.std.specs.Array.{IsFromFnResultFrom}
use Rattle.std.specs.Fn.{Called}
use denote.Param.Members.{Mut}

module _ {F : Type 0} (g : Mut F (ℕ × Unit {0}) ℕ) (f : F) (P : ℕ → ℕ → Type 0) (step : (i r : ℕ) (q : F) → Called g f (i, tt) r q → (q ≡ f) × P i r) where
  each-made : (n i : ℕ) (h : F) (ys : List ℕ) → h ≡ f → IsFromFnResultFrom g h ys i n → (k : ℕ) → i ≤ k → k < i + n → P k (get_or ys k 0)
  each-made zero i h ys e t k l m = absurd (omega arith)
  each-made (suc n) i h ys e t k l m = go (ℕ_discrete k i) (λ d. each-made n (i + 1) t.0 ys here.0 t.4 k (omega arith) (omega arith))
    where
      here : (t.0 ≡ f) × P i t.1
      here = step i t.1 t.0 (subst (λ (x : F). Called g x (i, tt) t.1 t.0) e t.3)

      go : Dec (k ≡ i) → (k ≢ i → P k (get_or ys k 0)) → P k (get_or ys k 0)
      go (yes q) later =
          subst (λ (x : ℕ). P x (get_or ys x 0)) (sym q) (subst (P i) (sym (t.2.1 0)) here.1)
      go (no d) later = later d

  pub made : (n : ℕ) (ys : List ℕ) → IsFromFnResultFrom g f ys 0 n → (k : ℕ) → k < n → P k (get_or ys k 0)
  made n ys t k h = each-made n 0 f ys refl t k (omega arith) (omega arith)
