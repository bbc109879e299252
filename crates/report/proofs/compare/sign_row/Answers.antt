-- `report::compare::sign_row` meets its contract. Assumes nothing.
use Rattle.code.proofs.Loops.{filled-end}
use Rattle.report.specs.Compare.{sheet_signs}
use Rattle.report.proofs.Comparing.{sheet-signs-long, sheet-signs-at}
use Rattle.report.proofs.compare.sign_row.Goals as goal

pub returns : goal.returns
returns c =
    let a = c.args in
    filled-end c.loop-i.invariant c.loop-i-test.false tt (sheet_signs a.controller.now a.cupboard.now)
    (sheet-signs-long a.controller.now a.cupboard.now c.requires.0 c.requires.1)
    (sheet-signs-at a.controller.now a.cupboard.now c.requires.0 c.requires.1)
