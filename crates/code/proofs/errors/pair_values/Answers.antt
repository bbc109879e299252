-- `code::errors::pair_values` meets its contract. Assumes nothing.
use Rattle.field.proofs.Base.{ℕ, ◌<◌, arith}
use Rattle.field.specs.inner.Operand.{Operand}
use Rattle.field.proofs.Widths.{field_of}
use Rattle.field.proofs.Ask.{operand-of}
use Rattle.field.proofs.Bytes.{xor-add}
use Rattle.code.specs.Word.{checks, at}
use Rattle.code.proofs.Columns.{column-lt}
use Rattle.code.proofs.finding.PlainWays.{pair_values}
use Rattle.code.proofs.errors.pair_values.Goals as goal

pub returns : goal.returns
returns c =
    λ w h hq l lp.
    (let y = c.column-y in
    let x = c.column-x in
    let a = c.args in
    let m = a.width in
    let F = field_of m w in
    let o : (k : ℕ) → k < checks → Operand m (at a.s k) = λ k i. record { width = w; symbol = h k i } in
    pair_values F (at a.s) h a.p.0 a.q.0 hq l lp x.result y.result (x.ensures w) (y.ensures w) _ _ (xor-add _ c.second_value-second.result)
    (c.second_value-second.ensures (operand-of m _ _ w (x.ensures w) (column-lt F _ _)) (operand-of m _ _ w (y.ensures w) (column-lt F _ _)) (o 0 (omega arith)) (o 1 (omega arith))))
