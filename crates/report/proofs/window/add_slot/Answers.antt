-- `report::window::add_slot` meets its contract. Assumes nothing.
use Rattle.field.proofs.Base.{arith, ◌^◌}
use Rattle.report.proofs.Reports.{within-at, slot-blank, slot-record}
use Rattle.report.proofs.window.add_slot.Goals as goal

pub add_one-requires : goal.add_one-requires
add_one-requires c = (omega (arith, c.requires.1.size), omega (arith, within-at (2 ^ 63) c.args.report.now 1153 c.requires.1.within))

pub returns-then-is_blank : goal.returns-then-is_blank
returns-then-is_blank c =
    let x = c.is_blank in
    let a = c.args in
    slot-blank a.w a.report.now a.slot.now x.result x.ensures c.if-is_blank.true _ c.add_one.ensures

pub returns-else-is_blank : goal.returns-else-is_blank
returns-else-is_blank c =
    let x = c.is_blank in
    let a = c.args in
    slot-record a.w a.report.now a.slot.now x.result x.ensures c.if-is_blank.false _ c.add_record.ensures
