-- The length of a word at each width, and what it tells of the width. Assumes nothing.
use Rattle.field.proofs.Base.{◌≡◌, refl, ap, ◌∙◌, ◌≢◌, Bool, true, false, cond, ℕ, ◌≤◌, arith}
use Rattle.field.specs.Question.{is_width}
use Rattle.field.proofs.Widths.{order_small}
use Rattle.code.specs.Word.{places, word_length, longest}

pub places-most : (m : ℕ) → is_width m ≡ true → places m ≤ longest
places-most m w = omega (arith, order_small m w)

-- from what `word_length` says of it
module _ (m n : ℕ) (e : n ≡ word_length m) where
  pub width_some : n ≢ 0 → is_width m ≡ true
  width_some some = go (is_width m) e
    where
      go : (b : Bool) → n ≡ cond b (places m) 0 → b ≡ true
      go true p = refl
      go false p = absurd (some p)

  pub width-none : n ≡ 0 → is_width m ≡ false
  width-none none = go (is_width m) e
    where
      go : (b : Bool) → n ≡ cond b (places m) 0 → b ≡ false
      go false p = refl
      go true p = absurd (omega (arith, p))

  pub length-is : is_width m ≡ true → n ≡ places m
  length-is w = e ∙ ap (λ (b : Bool). cond b (places m) 0) w
