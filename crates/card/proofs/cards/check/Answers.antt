-- `card::cards::check` meets its contract. Assumes nothing.
use Rattle.field.proofs.Base.{ap, not}
use Rattle.card.proofs.Checking.{checks-refused, checks-last, checks-end}
use Rattle.card.proofs.cards.check.Goals as goal

pub returns-then-not-is_fine : goal.returns-then-not-is_fine
returns-then-not-is_fine c =
    let called = c.is_fine in
    checks-refused c.args.card.now c.loop-at.at c.loop-at.i c.loop-at.invariant called.result _
    called.ensures c.record_from.ensures.bytes c.loop-at-test.true (ap not c.if-not-is_fine.true)

pub returns-then-card-at-le-RECORD : goal.returns-then-card-at-le-RECORD
returns-then-card-at-le-RECORD c =
    let called = c.is_fine in
    checks-last c.args.card.now c.loop-at.at c.loop-at.i c.loop-at.invariant called.result _
    called.ensures c.record_from.ensures.bytes c.loop-at-test.true
    c.if-card-at-le-RECORD.true (ap not c.if-not-is_fine.false)

pub returns : goal.returns
returns c = checks-end c.args.card.now c.loop-at.at c.loop-at.i c.loop-at.invariant c.loop-at-test.false
