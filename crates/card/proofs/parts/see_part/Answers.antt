-- `card::parts::see_part` meets its contract. Before turn i the findings are those of the first i slots. Assumes nothing.
use Rattle.field.proofs.Base.{◌≡◌, ap, ◌∙◌, ◌+◌, ◌/◌, ◌<◌, arith, length}
use native.Mathlib.Nat.{div-le_self}
use Rattle.card.specs.Findings.{slot_found}
use Rattle.card.specs.declared.parts.Findings.{Findings}
use Rattle.card.proofs.Slots.{slot-cut, slot_whole}
use Rattle.card.proofs.Findings.{slots-fit, found-slots}
use Rattle.card.proofs.Folding.{over_none, over-on}
use Rattle.card.proofs.parts.see_part.Goals as goal

pub loop-i-init : goal.loop-i-init
loop-i-init c =
    let a = c.args in over_none a.k (slot_found a.k) a.s a.part.now

pub see_slot-found-requires : goal.see_slot-found-requires
see_slot-found-requires c =
    let x = c.size_of-size in
    let k = c.args.k in
    let part = c.args.part.now in
    let i = c.loop-i.i in
    let h : i < length part / x.result = omega arith in
    let seen : c.loop-i.found.slots ≡ c.args.s.slots + i = ap (λ (u : Findings). u.slots) c.loop-i.invariant ∙ found-slots k c.args.s part i in (
      c.requires.0,
      ap length (slot-cut k part i x.result x.ensures)
          ∙ slot_whole k part (length part / x.result) (slots-fit k part x.result x.ensures) i h,
      omega (arith, seen, div-le_self (length part) x.result),
    )

pub loop-i-preserved : goal.loop-i-preserved
loop-i-preserved c =
    let x = c.size_of-size in
    let a = c.args in
    over-on a.k (slot_found a.k) a.s a.part.now c.loop-i.i _ _ _ c.loop-i.invariant c.see_slot-found.ensures
    (slot-cut a.k a.part.now c.loop-i.i x.result x.ensures)
