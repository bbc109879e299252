-- `report::window::add_sheet` meets its contract. Assumes nothing.
use Rattle.field.proofs.Base.{ap, ◌∙◌, sym, subst, ◌^◌}
use Rattle.code.specs.Word.{at}
use Rattle.sheet.specs.Sheet.{pump_at}
use Rattle.report.specs.inner.Room.{Most}
use Rattle.report.specs.Window.{row_with, row_of}
use Rattle.report.specs.declared.row.Row.{Row}
use Rattle.report.proofs.Reports.{pump-small, row-most, row_read, row_written}
use Rattle.report.proofs.window.add_sheet.Goals as goal

pub with_sheet-requires : goal.with_sheet-requires
with_sheet-requires c =
    let p = at c.args.symbols.now pump_at in
    let r = row_read c.args.report.now p c.row_of.result c.row_of.ensures in (
      c.requires.0,
      c.requires.1,
      subst (Most (2 ^ 63)) (sym r) (row-most (2 ^ 63) c.args.report.now c.requires.2 p (pump-small c.args.symbols.now c.requires.1)),
    )

pub returns : goal.returns
returns c =
    let a = c.args in
    let p = at a.symbols.now pump_at in
    row_written a.report.now p (row_with a.w (row_of a.report.now p) a.symbols.now) c.with_sheet.result _ c.put_row.ensures
    (c.with_sheet.ensures
    ∙ ap (λ (y : Row). row_with a.w y a.symbols.now) (row_read a.report.now p c.row_of.result c.row_of.ensures))
