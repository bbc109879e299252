-- `report::compare::compare` meets its contract. Assumes nothing.
use Rattle.std.proofs.Common.{Err}
use Rattle.field.proofs.Base.{rules, ◌≡◌}
use Rattle.report.proofs.Comparing.{compares-refused, first-refused, second-refused, compares, shows-refused}
use Rattle.report.proofs.compare.compare.Goals as goal

pub returns : goal.returns
returns c =
    let a = c.args in
    compares a.controller.now a.i a.cupboard.now a.j c.ask_numbers.result c.ask_numbers.ensures (search rules) _ c.slot.ensures.bytes _
    c.read_day.ensures _ c.in_ok-a.was _ c.slot-2.ensures.bytes _ c.read_day-2.ensures _ c.in_ok-b.was _ c.side_by_side.ensures

pub returns-in_err-ask_numbers : goal.returns-in_err-ask_numbers
returns-in_err-ask_numbers c =
    let a = c.args in
    let r : c.from_residual.result ≡ Err c.in_err-ask_numbers.field-0.0 = search rules in
    shows-refused _ _ _ _ (compares-refused a.controller.now a.i a.cupboard.now a.j c.ask_numbers.result c.ask_numbers.ensures _ (search rules)) _ r

pub returns-in_err-a : goal.returns-in_err-a
returns-in_err-a c =
    let a = c.args in
    let r : c.from_residual-in_err-a.result ≡ Err c.in_err-a.field-0.0 = search rules in
    shows-refused _ _ _ _ (first-refused a.controller.now a.i a.cupboard.now a.j c.ask_numbers.result c.ask_numbers.ensures (search rules) _
    c.slot.ensures.bytes _ c.read_day.ensures _ (search rules)) _ r

pub returns-in_err-b : goal.returns-in_err-b
returns-in_err-b c =
    let a = c.args in
    let r : c.from_residual-in_err-b.result ≡ Err c.in_err-b.field-0.0 = search rules in
    shows-refused _ _ _ _ (second-refused a.controller.now a.i a.cupboard.now a.j c.ask_numbers.result c.ask_numbers.ensures (search rules) _
    c.slot.ensures.bytes _ c.read_day.ensures _ c.in_ok-a.was _ c.slot-2.ensures.bytes _ c.read_day-2.ensures _ (search rules)) _ r
