-- `code::candidates::range_of` meets its contract. Assumes nothing.
use Rattle.field.proofs.Base.{◌+◌, ◌≤◌, arith}
use Rattle.code.proofs.candidates.range_of.Goals as goal

pub loop-k-preserved : goal.loop-k-preserved
loop-k-preserved c m w es T =
    let fits : c.loop-k.k + c.args.n ≤ 5 = omega arith in
    c.narrowed-f.ensures m w es (c.loop-k.invariant m w es T) (λ x. T c.loop-k.k fits x)
