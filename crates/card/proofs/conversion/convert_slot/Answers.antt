-- `card::conversion::convert_slot` meets its contract. Assumes nothing.
use Rattle.field.proofs.Base.{rules, ◌≡◌, ◌∙◌, ◌+◌, arith, length, take, drop, length-take-le}
use Rattle.code.proofs.Loops.{part-drop, two-parts}
use Rattle.card.proofs.Converted.{header-part}
use Rattle.card.proofs.conversion.convert_slot.Goals as goal

pub returns : goal.returns
returns c =
    let h = c.new_header-header in
    let a = c.args in
    let l : 7 ≡ length h.result = search rules in
    two-parts (2 + a.j) a.to.now (take (2 + a.j) h.result) (drop (2 + a.k) a.from.now) _ _ c.copy.ensures
    (c.copy-2.ensures ∙ part-drop (2 + a.k) a.from.now) (length-take-le (2 + a.j) h.result (omega arith))
    ∙ header-part a.k a.j c.requires.j_value.0 c.requires.j_value.1 c.requires.j_value.2 a.from.now h.result c.requires.from_len.0 h.ensures
