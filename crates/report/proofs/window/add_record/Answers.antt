-- `report::window::add_record` meets its contract. Assumes nothing.
use Rattle.field.proofs.Base.{sym, arith, ◌^◌}
use Rattle.report.proofs.Days.{is-sheet}
use Rattle.report.proofs.Reports.{within-at}
use Rattle.report.proofs.window.add_record.Goals as goal

pub add_sheet-requires : goal.add_sheet-requires
add_sheet-requires c = (c.requires.0, (is-sheet c.args.slot.now _ _ (sym c.in-Ok.ensures)).symbols, c.requires.1)

pub add_one-requires : goal.add_one-requires
add_one-requires c = (omega (arith, c.requires.1.size), omega (arith, within-at (2 ^ 63) c.args.report.now 1152 c.requires.1.within))
