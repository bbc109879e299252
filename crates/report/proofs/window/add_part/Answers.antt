-- `report::window::add_part` meets its contract. Assumes nothing.
use Rattle.field.proofs.Base.{sym, subst, arith, ◌+◌, ◌*◌, ◌^◌}
use Rattle.card.specs.Record.{erasure_bytes}
use Rattle.card.proofs.Folding.{over_none, over-on}
use Rattle.report.specs.Window.{slot_added}
use Rattle.report.specs.inner.Room.{Countable, day_most}
use Rattle.report.proofs.Reports.{slots_added, slots-countable, countable-more}
use Rattle.report.proofs.window.add_part.Goals as goal

pub loop-i-init : goal.loop-i-init
loop-i-init c =
    let a = c.args in over_none erasure_bytes (slot_added a.w) a.report.now a.part.now

pub add_slot-requires : goal.add_slot-requires
add_slot-requires c =
    let a = c.args in
    let i = c.loop-i.i in (
      c.requires.0,
      subst (Countable (2 ^ 63)) (sym c.loop-i.invariant)
          (countable-more (2 ^ 62 + i * day_most) (2 ^ 63) (omega arith) (slots_added a.w a.report.now a.part.now i)
          (slots-countable a.w c.requires.0 (2 ^ 62) a.report.now c.requires.2 a.part.now i)),
    )

pub loop-i-preserved : goal.loop-i-preserved
loop-i-preserved c =
    let a = c.args in
    over-on erasure_bytes (slot_added a.w) a.report.now a.part.now c.loop-i.i _ _ _ c.loop-i.invariant c.add_slot.ensures
    c.record_from.ensures.bytes
