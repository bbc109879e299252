-- `exports::xrs_compare_part` meets its contract. Assumes nothing.
use Rattle.field.proofs.Base.{rules, arith}
use Rattle.exports.proofs.Parting.{first-inside, second-inside, size-told}
use Rattle.exports.proofs.xrs_compare_part.Goals as goal
use Rattle.exports.proofs.xrs_compare_part.Goals.{in-Controller, in-Cupboard}

pub overflow_sub-offset : goal.overflow_sub-offset
overflow_sub-offset c = elim c.match-told.branch [
  | in-Controller w ↦
      let h = first-inside _ _ _ _ _ c.compare_part.ensures c.in-Ok.told (search rules) (search rules) in omega (arith, w.number-is, h.low)
  | in-Cupboard w ↦
      let h = second-inside _ _ _ _ _ c.compare_part.ensures c.in-Ok.told (search rules) (search rules) in omega (arith, w.number-is, h.low)
]

pub overflow_mul-offset : goal.overflow_mul-offset
overflow_mul-offset c = elim c.match-told.branch [
  | in-Controller w ↦
      let h = first-inside _ _ _ _ _ c.compare_part.ensures c.in-Ok.told (search rules) (search rules) in omega (arith, w.number-is, h.high)
  | in-Cupboard w ↦
      let h = second-inside _ _ _ _ _ c.compare_part.ensures c.in-Ok.told (search rules) (search rules) in omega (arith, w.number-is, h.high)
]

pub returns-after-told-clause-lasts : goal.returns-after-told-clause-lasts
returns-after-told-clause-lasts c = size-told _ _ _ _ _ c.compare_part.ensures c.in-Ok.told (search rules) _
