-- `report::row::with_sheet` meets its contract. Assumes nothing.
use Rattle.field.proofs.Base.{arith}
use Rattle.report.proofs.Counting.{counts-fit, row-with}
use Rattle.report.proofs.row.with_sheet.Goals as goal

pub row_after-requires : goal.row_after-requires
row_after-requires c =
    let n = c.counts_of-counts in
    let f = counts-fit c.args.w c.requires.0 c.args.symbols.now c.requires.1 n.result n.ensures in
    (omega (arith, c.requires.2.sheets), omega (arith, c.requires.2.sum, f.0), omega (arith, c.requires.2.full, f.1))

pub returns : goal.returns
returns c =
    let a = c.args in
    let n = c.counts_of-counts in
    row-with a.w a.row a.symbols.now n.result c.date_of.result _ n.ensures c.date_of.ensures c.row_after.ensures
