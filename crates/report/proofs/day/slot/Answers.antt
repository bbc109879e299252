-- `report::day::slot` meets its contract. Assumes nothing.
use Rattle.field.proofs.Base.{◌≡◌, sym, ◌∙◌, Bool, true, List, ℕ, ◌≤◌, arith, length}
use Rattle.card.specs.Slots.{record_count}
use Rattle.card.proofs.Numbering.{number-low, number-high}
use Rattle.report.specs.Day.{has_record}
use Rattle.report.proofs.day.slot.Goals as goal

-- the card has a record of this number
first : (card : List ℕ) (n : ℕ) (b : Bool) → b ≡ has_record card n → b ≡ true → 1 ≤ n
first card n b e t = number-low (record_count (length card)) n (sym e ∙ t)

most : (card : List ℕ) (n : ℕ) (b : Bool) → b ≡ has_record card n → b ≡ true → n ≤ record_count (length card)
most card n b e t = number-high (record_count (length card)) n (sym e ∙ t)

pub overflow_sub-number : goal.overflow_sub-number
overflow_sub-number c = omega (arith, first c.args.card.now c.args.number _ c.has_record.ensures c.if-has_record.true)

pub overflow_mul-number : goal.overflow_mul-number
overflow_mul-number c =
    let card = c.args.card.now in
    let n = c.args.number in
    omega (arith, first card n _ c.has_record.ensures c.if-has_record.true, most card n _ c.has_record.ensures c.if-has_record.true)

pub record_from-requires : goal.record_from-requires
record_from-requires c =
    let card = c.args.card.now in
    let n = c.args.number in
    omega (arith, first card n _ c.has_record.ensures c.if-has_record.true, most card n _ c.has_record.ensures c.if-has_record.true)
