-- `code::errors::coefficient` meets its contract. Assumes nothing.
use Rattle.field.proofs.Base.{ap₂, ◌∙◌, ℕ, ◌<◌}
use Rattle.field.specs.Polynomial.{add}
use Rattle.field.specs.inner.Operand.{Operand}
use Rattle.field.proofs.Bytes.{xor-add, multiplied-product}
use Rattle.code.specs.Word.{checks, at}
use Rattle.code.proofs.errors.coefficient.Goals as goal

pub returns : goal.returns
returns c =
    λ w h.
    (let a = c.args in
    let o : (j : ℕ) → j < checks → Operand a.width (at a.s j) = λ j l. record { width = w; symbol = h j l } in
    xor-add c.multiply-a.result c.multiply-b.result
    ∙ ap₂ add (c.multiply-a.ensures ∙ multiplied-product (o a.i c.requires.0) (o a.j c.requires.1))
    (c.multiply-b.ensures ∙ multiplied-product (o a.k c.requires.2) (o a.l c.requires.3)))
