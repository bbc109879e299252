-- `card_csv::fields::value_of` meets its contract. Before each turn the digits so far stand for the value. Assumes nothing.
use Rattle.field.proofs.Base.{arith}
use Rattle.card_csv.proofs.Values.{valued-start, valued-digit, valued-small, valued-on, valued-end}
use Rattle.card_csv.proofs.fields.value_of.Goals as goal

pub loop-digit-init : goal.loop-digit-init
loop-digit-init c = valued-start c.args.text.now

pub overflow_mul-value : goal.overflow_mul-value
overflow_mul-value c =
    let l = c.loop-digit in
    let small = valued-small c.args.text.now c.requires l.digit-index l.value (omega arith) l.invariant in omega arith

pub overflow_sub-digit : goal.overflow_sub-digit
overflow_sub-digit c =
    let l = c.loop-digit in
    let digit = valued-digit c.args.text.now c.requires l.digit-index l.value (omega arith) l.invariant in omega arith

pub overflow_add-value : goal.overflow_add-value
overflow_add-value c =
    let l = c.loop-digit in
    let small = valued-small c.args.text.now c.requires l.digit-index l.value (omega arith) l.invariant in
    let digit = valued-digit c.args.text.now c.requires l.digit-index l.value (omega arith) l.invariant in
    omega (arith, c.from.ensures)

pub loop-digit-preserved : goal.loop-digit-preserved
loop-digit-preserved c =
    let l = c.loop-digit in
    valued-on c.args.text.now c.requires l.digit-index l.value (omega arith) l.invariant c.from.result c.from.ensures

pub returns : goal.returns
returns c =
    let l = c.loop-digit in valued-end c.args.text.now l.digit-index l.value (omega arith) l.invariant
