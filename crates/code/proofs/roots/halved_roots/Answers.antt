-- `code::roots::halved_roots` meets its contract. Assumes nothing.
use Rattle.field.proofs.Bytes.{xor-add, ratio-own}
use Rattle.code.proofs.finding.Quadratic.{halved-roots}
use Rattle.code.proofs.roots.halved_roots.Goals as goal

pub returns : goal.returns
returns c =
    λ la lb lc.
    (let a = c.args in
    halved-roots a.square a.linear a.constant c.invert-inverse.result c.multiply-ratio.result c.multiply-rest.result c.multiply.result
    c.half_trace-y.result _ _ _ _ _ la lb lc c.invert-inverse.ensures c.multiply-ratio.ensures c.multiply-rest.ensures c.multiply.ensures
    c.half_trace-y.ensures (xor-add c.half_trace-y.result 1) c.ratio_exponent.ensures.0
    (ratio-own _ _ _ c.ratio_exponent.ensures.1)
    c.ratio_exponent-2.ensures.0 (ratio-own _ _ _ c.ratio_exponent-2.ensures.1) c.sorted.ensures.0 c.sorted.ensures.1)
