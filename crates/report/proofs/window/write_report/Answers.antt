-- `report::window::write_report` meets its contract. Assumes nothing.
use Rattle.field.proofs.Base.{◌^◌, length}
use Rattle.report.proofs.Reports.{zeros-ready, front-most, report-made}
use Rattle.report.proofs.window.write_report.Goals as goal

pub add_part-requires : goal.add_part-requires
add_part-requires c =
    let a = c.args in
    let n = length a.report.now in (
      c.requires.0,
      front-most a.w a.card.now n c.requires.1 _ c.begin.ensures c.min.result c.min.ensures,
      zeros-ready a.w a.card.now n c.requires.1 _ c.begin.ensures (2 ^ 62),
    )

pub returns : goal.returns
returns c =
    let a = c.args in
    report-made a.w a.card.now (length a.report.now) c.requires.1 _ c.begin.ensures c.min.result c.min.ensures _ _ c.add_part.ensures
    c.finish.ensures
