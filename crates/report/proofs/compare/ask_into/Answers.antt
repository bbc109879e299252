-- `report::compare::ask_into` meets its contract. Assumes nothing.
use Rattle.std.proofs.Common.{Err}
use Rattle.field.proofs.Base.{rules, ◌≡◌}
use Rattle.report.proofs.Comparing.{into-yes, into-length, into-no}
use Rattle.report.proofs.compare.ask_into.Goals as goal

pub returns-then-m-eq-QUARTERS : goal.returns-then-m-eq-QUARTERS
returns-then-m-eq-QUARTERS c = search (rules, into-yes)

pub returns-else-m-eq-QUARTERS : goal.returns-else-m-eq-QUARTERS
returns-else-m-eq-QUARTERS c = search (rules, into-length)

pub returns-in_err-ask_numbers : goal.returns-in_err-ask_numbers
returns-in_err-ask_numbers c =
    let a = c.args in
    let r : c.from_residual.result ≡ Err c.in_err-ask_numbers.field-0.0 = search rules in
    into-no a.controller.now a.i a.cupboard.now a.j a.m _ c.ask_numbers.ensures _ (search rules) _ r
