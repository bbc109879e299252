-- `code::solver::add_product` meets its contract. Assumes nothing.
use Rattle.field.proofs.Base.{sym, ap, ◌∙◌, ℕ}
use Rattle.field.specs.Polynomial.{add}
use Rattle.field.specs.Field.{product}
use Rattle.field.proofs.Widths.{field_of}
use Rattle.field.proofs.Bytes.{xor-add, multiplied-product}
use Rattle.code.proofs.solver.add_product.Goals as goal

pub returns-then-y-eq0 : goal.returns-then-y-eq0
returns-then-y-eq0 c =
    λ k y.
    (let a = c.args in
    let F = field_of a.width k.width in
    sym (ap (λ (z : ℕ). add a.x (product a.width a.k z)) c.if-y-eq0.true ∙ ap (add a.x) (F.product-zero a.k) ∙ F.add-zero a.x))

pub returns : goal.returns
returns c k y = (let x = c.args.x in xor-add x c.multiply.result ∙ ap (add x) (c.multiply.ensures ∙ multiplied-product k y))
