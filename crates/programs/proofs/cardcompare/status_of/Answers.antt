-- `programs::cardcompare::status_of` meets its contract. Assumes nothing.
use Rattle.programs.proofs.Comparing.{ends-failed, ends-equal, ends-different}
use Rattle.programs.proofs.Batches.{asked-no, asked-yes}
use Rattle.programs.proofs.cardcompare.status_of.Goals as goal

pub returns-then-not-ok : goal.returns-then-not-ok
returns-then-not-ok c =
    let a = c.args in ends-failed a.x a.o (asked-no c.ok.ensures c.if-not-ok.true)

pub returns-then-x-eq-QUARTERS : goal.returns-then-x-eq-QUARTERS
returns-then-x-eq-QUARTERS c =
    let a = c.args in ends-equal a.x a.o (asked-yes c.ok.ensures c.if-not-ok.false) c.if-x-eq-QUARTERS.true

pub returns-else-x-eq-QUARTERS : goal.returns-else-x-eq-QUARTERS
returns-else-x-eq-QUARTERS c =
    let a = c.args in ends-different a.x a.o (asked-yes c.ok.ensures c.if-not-ok.false) c.if-x-eq-QUARTERS.false
