-- `code::word::entry_times` meets its contract. Assumes nothing.
use Rattle.field.proofs.Base.{ap, ◌∙◌, ℕ}
use Rattle.field.specs.Field.{product}
use Rattle.field.proofs.Widths.{field_of}
use Rattle.field.proofs.Ask.{operand-of}
use Rattle.field.proofs.Bytes.{multiplied-product}
use Rattle.code.proofs.Columns.{column-lt}
use Rattle.code.proofs.word.entry_times.Goals as goal

pub returns : goal.returns
returns c =
    λ w h.
    (let a = c.args in
    let m = a.width in
    let e = c.column.ensures w in
    c.multiply.ensures
    ∙ multiplied-product (operand-of m _ _ w e (column-lt (field_of m w) a.p.0 a.k)) (record { width = w; symbol = h })
    ∙ ap (λ (y : ℕ). product m y a.x) e)
