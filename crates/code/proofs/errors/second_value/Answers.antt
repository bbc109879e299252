-- `code::errors::second_value` meets its contract. Assumes nothing.
use Rattle.field.proofs.Base.{ap, ap₂, ◌∙◌}
use Rattle.field.specs.Polynomial.{add}
use Rattle.field.specs.Field.{product, inverse}
use Rattle.field.proofs.Widths.{field_of}
use Rattle.field.proofs.Ask.{operand-of}
use Rattle.field.proofs.Bytes.{xor-add, multiplied-product, inverted-inverse}
use Rattle.code.proofs.errors.second_value.Goals as goal

pub returns : goal.returns
returns c =
    λ ox oy os on.
    (let a = c.args in
    let m = a.width in
    let F = field_of m ox.width in
    let x = c.multiply in
    let d = xor-add a.next x.result ∙ ap (add a.next) (x.ensures ∙ multiplied-product ox os) in
    let e = xor-add a.x a.y in
    let i = c.invert.ensures ∙ inverted-inverse (operand-of m _ _ ox.width e (F.add-lt _ _ ox.symbol oy.symbol)) ∙ ap (inverse m) e in
    c.multiply-2.ensures
    ∙ multiplied-product (operand-of m _ _ ox.width d (F.add-lt _ _ on.symbol (F.product_lt _ _))) (operand-of m _ _ ox.width i (F.inverse-lt _))
    ∙ ap₂ (product m) d i)
