-- `report::table::put_pump` meets its contract. Assumes nothing.
use Rattle.field.proofs.Base.{◌^◌, arith}
use Rattle.report.proofs.Reports.{row_read, year-most}
use Rattle.report.proofs.table.put_pump.Goals as goal

pub put_line-requires : goal.put_line-requires
put_line-requires c =
    let x = c.row_of-row in
    let report = c.args.report.now in
    let row = row_read report c.args.p x.result x.ensures in
    (omega arith, rw row (year-most (2 ^ 63) report c.requires.2 c.args.p c.requires.1))
