-- `card::parts::see_slot` meets its contract. Assumes nothing.
use Rattle.card.proofs.Findings.{found-fewer, found-kept}
use Rattle.card.proofs.parts.see_slot.Goals as goal

pub returns-then-passed-s : goal.returns-then-passed-s
returns-then-passed-s c =
    let p = c.slot_passed-passed in
    let a = c.args in
    found-fewer a.k a.s a.slot.now p.result p.ensures c.if-passed-s.true

pub returns-else-passed-s : goal.returns-else-passed-s
returns-else-passed-s c =
    let p = c.slot_passed-passed in
    let a = c.args in
    found-kept a.k a.s a.slot.now p.result p.ensures c.if-passed-s.false
