-- Texts one behind the other. Assumes nothing.
use Rattle.field.proofs.Base.{◌≡◌, refl, List, [], ◌++◌, ℕ, ◌+◌, add-one}
use Rattle.card.proofs.Writing.{appending}
use Rattle.show.specs.Text.{texts}

pub texts_none : (f : ℕ → List ℕ) → texts f 0 ≡ []
unfolding texts
texts_none f = refl

pub texts_more : (f : ℕ → List ℕ) (n : ℕ) → texts f (n + 1) ≡ texts f n ++ f n
unfolding texts
texts_more f n = rw (add-one n) refl

pub ruleset texts_steps = (appending, texts_none, texts_more)
