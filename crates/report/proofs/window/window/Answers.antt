-- `report::window::window` meets its contract. Assumes nothing.
use Rattle.field.proofs.Base.{rules}
use Rattle.report.proofs.Reports.{asked-window, asked-size}
use Rattle.report.proofs.window.window.Goals as goal

pub write_report-requires : goal.write_report-requires
write_report-requires c =
    let a = c.args in
    let x = c.ask_window in (
      asked-window a.w a.report.now x.result x.ensures (search rules),
      asked-size a.w a.report.now x.result x.ensures (search rules),
    )
