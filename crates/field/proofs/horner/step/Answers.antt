-- `field::horner::step` meets its contract. Assumes nothing.
use Rattle.field.proofs.Base.{ap₂, ◌∙◌, ℕ, lit<}
use Rattle.field.specs.Polynomial.{add}
use Rattle.field.specs.Field.{product, power, α}
use Rattle.field.proofs.Bytes.{xor-add, shifted-symbol}
use Rattle.field.specs.inner.Bytes.{width_for, symbol_for}
use Rattle.field.specs.Sum.{at}
use Rattle.field.proofs.Evaluation.{five-of, first-shift}
use Rattle.field.proofs.horner.step.Goals as goal

pub returns : goal.returns
returns c =
    λ h.
    (let x = c.symbol_of-x in
    let a = c.args in
    let m : ℕ = a.width in
    let n : ℕ = width_for m in
    five-of (λ k. add (product n (power n α k) (at a.s k)) (symbol_for m a.c)) _ _ _ _ _
    (xor-add _ _ ∙ ap₂ add (first-shift m _ (h 0 (lit< tt))) x.ensures)
    (xor-add _ _ ∙ ap₂ add (c.shift.ensures ∙ shifted-symbol m _ 1 (h 1 (lit< tt))) x.ensures)
    (xor-add _ _ ∙ ap₂ add (c.shift-2.ensures ∙ shifted-symbol m _ 2 (h 2 (lit< tt))) x.ensures)
    (xor-add _ _ ∙ ap₂ add (c.shift-3.ensures ∙ shifted-symbol m _ 3 (h 3 (lit< tt))) x.ensures)
    (xor-add _ _ ∙ ap₂ add (c.shift-4.ensures ∙ shifted-symbol m _ 4 (h 4 (lit< tt))) x.ensures))
