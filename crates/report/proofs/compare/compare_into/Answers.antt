-- `report::compare::compare_into` meets its contract. Assumes nothing.
use Rattle.std.proofs.Common.{Err}
use Rattle.field.proofs.Base.{rules, ◌≡◌, ◌∙◌, length}
use Rattle.sheet.specs.Sheet.{quarters}
use Rattle.report.proofs.Comparing.{into-size, into-compared, into-refused, compared-no}
use Rattle.report.proofs.compare.compare_into.Goals as goal

pub copy_from_slice-requires : goal.copy_from_slice-requires
copy_from_slice-requires c =
    let a = c.args in
    let long : quarters ≡ length c.in_ok-c.c.signs = search rules in
    into-size a.controller.now a.i a.cupboard.now a.j a.signs.now c.ask_into.result c.ask_into.ensures (search rules) ∙ long

pub returns : goal.returns
returns c =
    let a = c.args in
    into-compared a.controller.now a.i a.cupboard.now a.j a.signs.now c.ask_into.result c.ask_into.ensures (search rules) _
    c.compare.ensures _ c.in_ok-c.was _ c.copy_from_slice.ensures.after

pub returns-in_err-ask_into : goal.returns-in_err-ask_into
returns-in_err-ask_into c =
    let a = c.args in
    let r : c.from_residual.result ≡ Err c.in_err-ask_into.field-0.0 = search rules in
    into-refused a.controller.now a.i a.cupboard.now a.j a.signs.now c.ask_into.result c.ask_into.ensures _ (search rules) _ r

pub returns-in_err-c : goal.returns-in_err-c
returns-in_err-c c =
    let a = c.args in
    let r : c.from_residual-in_err-c.result ≡ Err c.in_err-c.field-0.0 = search rules in
    compared-no a.controller.now a.i a.cupboard.now a.j a.signs.now c.ask_into.result c.ask_into.ensures (search rules) _
    c.compare.ensures _ (search rules) _ r
