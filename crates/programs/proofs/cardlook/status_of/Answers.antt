-- `programs::cardlook::status_of` meets its contract. Assumes nothing.
use Rattle.field.proofs.Base.{sym, true, false, eqb-true, eqb-false, length}
use Rattle.programs.proofs.Looking.{fine-all, fine-not, look-unwell, look_none, look-shown}
use Rattle.programs.proofs.Batches.{asked-no, asked-yes}
use Rattle.programs.proofs.cardlook.status_of.Goals as goal

pub returns-then-not-is_well : goal.returns-then-not-is_well
returns-then-not-is_well c =
    let a = c.args in look-unwell a.slot.now a.i a.o (asked-no c.is_well.ensures c.if-not-is_well.true)

pub returns-then-is_empty : goal.returns-then-is_empty
returns-then-is_empty c =
    let a = c.args in look_none a.slot.now a.i a.o (asked-yes c.is_well.ensures c.if-not-is_well.false) (eqb-true _ _ (sym c.if-is_empty.ensures))

pub returns-in-None : goal.returns-in-None
returns-in-None c =
    let a = c.args in
    let x = c.check in
    let some = eqb-false (length a.slot.now) 0 (sym c.if-is_empty.ensures) in
    look-shown a.slot.now a.i a.o (asked-yes c.is_well.ensures c.if-not-is_well.false) some true
    (fine-all a.slot.now some c.requires x.result x.ensures c.in-None.is)

pub returns-in-Some : goal.returns-in-Some
returns-in-Some c =
    let a = c.args in
    let x = c.check in
    let some = eqb-false (length a.slot.now) 0 (sym c.if-is_empty.ensures) in
    look-shown a.slot.now a.i a.o (asked-yes c.is_well.ensures c.if-not-is_well.false) some false
    (fine-not a.slot.now some c.requires x.result x.ensures _ c.in-Some.is)
