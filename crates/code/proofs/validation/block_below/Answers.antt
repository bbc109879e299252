-- `code::validation::block_below` meets its contract. Assumes nothing.
use Rattle.field.proofs.Base.{arith, eqb-true}
use Rattle.code.proofs.Blocks.{block-below}
use Rattle.code.proofs.validation.block_below.Goals as goal

pub returns : goal.returns
returns c =
    let s = c.args in
    let e = c.eight in
    λ t. block-below s.xs.now s.i e.result s.q (omega arith) e.ensures (eqb-true _ _ t)
