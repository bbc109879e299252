-- `show::record::put_day` meets its contract. Assumes nothing.
use Rattle.field.proofs.Base.{arith}
use Rattle.report.specs.Day.{day_of}
use Rattle.report.proofs.Days.{told-sheet, is-sheet}
use Rattle.show.proofs.record.put_day.Goals as goal

pub put_sheet-requires : goal.put_sheet-requires
put_sheet-requires c =
    let bytes = c.args.bytes.now in
    let day = told-sheet (day_of bytes) c.read_day.result c.read_day.ensures c.in-Ok.day c.in-Ok.is in
    ((is-sheet bytes _ _ day).symbols, omega arith)
