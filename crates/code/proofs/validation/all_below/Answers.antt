-- `code::validation::all_below` meets its contract: what the blocks have in common with 256 - q is gathered. Assumes nothing.
use Rattle.field.proofs.Base.{rules}
use Rattle.code.proofs.Blocks.{gathered-start, gathered-on}
use Rattle.code.proofs.validation.all_below.Goals as goal

pub loop-p-init : goal.loop-p-init
loop-p-init c =
    let a = c.args in
    (search rules, search rules, search rules, gathered-start a.xs.now a.q (search rules) c.eight.result c.eight.ensures)

pub loop-p-preserved : goal.loop-p-preserved
loop-p-preserved c =
    let a = c.args in
    let b = c.eight-in-loop-p in
    (search rules, search rules, search rules, gathered-on a.xs.now a.q (search rules) c.loop-p.p b.result c.loop-p.found b.ensures c.loop-p.invariant.3)
