-- `show::comparison::put_starts` meets its contract. Assumes nothing.
use Rattle.field.proofs.Base.{sym, arith, length-take-le}
use Rattle.card.proofs.Writing.{appends-on}
use Rattle.sheet.specs.Sheet.{quarters}
use Rattle.show.specs.Comparison.{starts_line}
use Rattle.show.proofs.comparison.put_starts.Goals as goal

pub slice_bounds-starts_sum-end : goal.slice_bounds-starts_sum-end
slice_bounds-starts_sum-end c = sym (length-take-le quarters c.args.ss.now (omega arith))

pub starts_sum-requires : goal.starts_sum-requires
starts_sum-requires c = omega (arith, length-take-le quarters c.args.ss.now (omega arith))

pub slice_bounds-starts_sum-end-2 : goal.slice_bounds-starts_sum-end-2
slice_bounds-starts_sum-end-2 c = sym (length-take-le quarters c.args.ts.now (omega arith))

pub starts_sum-requires-2 : goal.starts_sum-requires-2
starts_sum-requires-2 c = omega (arith, length-take-le quarters c.args.ts.now (omega arith))

pub returns-clause-text : goal.returns-clause-text
unfolding starts_line
returns-clause-text c =
    let one = rw c.starts_sum.ensures at c.put_labelled.ensures.text in
    let two = rw c.starts_sum-2.ensures at c.put_labelled-2.ensures.text in
    appends-on one (appends-on two c.put_byte.ensures)
