-- `code::errors::value_from` meets its contract. Assumes nothing.
use Rattle.field.proofs.Base.{ap, ◌∙◌}
use Rattle.field.specs.Field.{product, inverse}
use Rattle.field.proofs.Widths.{field_of}
use Rattle.field.proofs.Ask.{operand-of}
use Rattle.field.proofs.Bytes.{multiplied-product, inverted-inverse}
use Rattle.code.proofs.Columns.{column-lt}
use Rattle.code.proofs.errors.value_from.Goals as goal

pub returns : goal.returns
returns c =
    λ w h.
    (let a = c.args in
    let m = a.width in
    let F = field_of m w in
    let k = c.column.ensures w in
    let i = c.invert.ensures ∙ inverted-inverse (operand-of m _ _ w k (column-lt F a.p.0 a.a)) in
    c.multiply.ensures ∙ multiplied-product (record { width = w; symbol = h }) (operand-of m _ _ w i (F.inverse-lt _))
    ∙ ap (product m a.x) (i ∙ ap (inverse m) k))
