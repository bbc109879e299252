-- `card::parts::slot_passed` meets its contract. Assumes nothing.
use Rattle.card.proofs.Leading.{slot-blank, slot-record}
use Rattle.card.proofs.parts.slot_passed.Goals as goal

pub returns-then-blank_in : goal.returns-then-blank_in
returns-then-blank_in c =
    let b = c.blank_in in
    let a = c.args in
    slot-blank a.k a.slot.now b.result b.ensures c.if-blank_in.true

pub returns : goal.returns
returns c =
    let b = c.blank_in in
    let a = c.args in
    slot-record a.k a.slot.now b.result b.ensures c.if-blank_in.false c.passed.result c.passed.ensures
