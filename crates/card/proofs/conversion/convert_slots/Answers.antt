-- `card::conversion::convert_slots` meets its contract. Before turn i the first i slots are written. Assumes nothing.
use Rattle.field.proofs.Base.{refl, ap, ◌∙◌, ◌<◌, arith}
use Rattle.card.specs.Conversion.{converted}
use Rattle.card.proofs.Slots.{slot-part}
use Rattle.card.proofs.Converted.{converted-size, converted-start, converted-on}
use Rattle.card.proofs.conversion.convert_slots.Goals as goal

pub loop-i-init : goal.loop-i-init
loop-i-init c =
    let a = c.args in (refl, converted-start a.k a.j a.card.now a.out.now)

pub loop-i-preserved : goal.loop-i-preserved
loop-i-preserved c =
    let a = c.args in
    let x = c.size_of-size in
    let y = c.size_of-other in
    let i = c.loop-i.i in
    let h : i < a.n = omega arith in
    let part = slot-part a.k a.card.now a.n c.requires.card_len.0 i h x.result x.ensures in (
      omega arith,
      converted-on a.k a.j a.card.now (converted-size a.k a.j c.requires.j_value.0 c.requires.j_value.1 c.requires.j_value.2) a.n
          c.requires.card_len.0 i h y.result y.ensures a.out.now c.loop-i.out _ c.loop-i.invariant.1
          (c.convert_slot.ensures ∙ ap (converted a.k a.j) part),
    )
