-- `report::compare::count` meets its contract. Assumes nothing.
use Rattle.field.proofs.Base.{arith}
use Rattle.report.proofs.Comparing.{occurs-yes, occurs-no, occurs-end}
use Rattle.report.proofs.compare.count.Goals.{then-x-s, else-x-s}
use Rattle.report.proofs.compare.count.Goals as goal

pub loop-x-preserved : goal.loop-x-preserved
loop-x-preserved c =
    let l = c.loop-x in
    let a = c.args in
    let n = c.if-x-s.n in
    elim c.if-x-s.branch [
      | then-x-s w ↦ (omega (arith, w.n-is, l.invariant.0), occurs-yes a.s a.signs.now l.x-index l.n l.invariant.1 c.loop-x-test.true n w.if-x-s.true w.n-is)
      | else-x-s w ↦ (omega (arith, w.n-is, l.invariant.0), occurs-no a.s a.signs.now l.x-index l.n l.invariant.1 c.loop-x-test.true n w.if-x-s.false w.n-is)
    ]

pub returns : goal.returns
returns c =
    let l = c.loop-x in
    let a = c.args in
    occurs-end a.s a.signs.now l.x-index l.n l.invariant.1 (omega (arith, c.loop-x-test.false))
