-- `programs::cardlook::answer` meets its contract. Assumes nothing.
use Rattle.field.proofs.Base.{sym, ap, arith, eqb-true, eqb-false}
use Rattle.programs.proofs.Looking.{looks-failed, looks-none, looks-card}
use Rattle.programs.proofs.Seeking.{slot-size, finds-slot}
use Rattle.programs.proofs.Batches.{asked-yes, asked-no}
use Rattle.programs.specs.declared.output.Output.{Output}
use Rattle.programs.proofs.cardlook.answer.Goals as goal

pub status_of-requires : goal.status_of-requires
status_of-requires c = slot-size c.args.n c.requires c.slot-slot.result.now c.slot-slot.ensures

pub returns-then-failed : goal.returns-then-failed
returns-then-failed c =
    let o = c.new-o in
    let none = ap (λ (p : Output). p.written) o.ensures in
    looks-failed c.args.n c.requires c.slot-slot.result.now c.slot-slot.ensures o.result c.status_of.result c.status_of.ensures none (asked-yes c.failed.ensures c.if-failed.true)

pub returns-then-is_empty : goal.returns-then-is_empty
returns-then-is_empty c =
    let o = c.new-o in
    let none = ap (λ (p : Output). p.written) o.ensures in
    looks-none c.args.n c.requires c.slot-slot.result.now c.slot-slot.ensures o.result c.status_of-then-is_empty.result c.status_of-then-is_empty.ensures none (eqb-true _ _ (sym c.if-is_empty.ensures))

pub write_look-output-requires : goal.write_look-output-requires
write_look-output-requires c =
    let o = c.new-o in (
      record { ok = ap (λ (p : Output). p.ok) o.ensures; small = omega (arith, ap (λ (p : Output). p.written) o.ensures) },
      finds-slot c.args.n c.requires c.slot-slot.result.now c.slot-slot.ensures (asked-no c.failed.ensures c.if-failed.false) (eqb-false _ _ (sym c.if-is_empty.ensures)),
    )

pub status_of-requires-2 : goal.status_of-requires-2
status_of-requires-2 c = slot-size c.args.n c.requires c.slot-slot.result.now c.slot-slot.ensures

pub returns : goal.returns
returns c =
    let o = c.new-o in
    let none = ap (λ (p : Output). p.written) o.ensures in
    looks-card c.args.n c.requires c.slot-slot.result.now c.slot-slot.ensures c.write_look-output.result c.status_of-2.result c.status_of-2.ensures
    o.result none (asked-no c.failed.ensures c.if-failed.false) (eqb-false _ _ (sym c.if-is_empty.ensures)) c.write_look-output.ensures
