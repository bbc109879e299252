-- `report::window::ask_window` meets its contract. Assumes nothing.
use Rattle.field.proofs.Base.{rules}
use Rattle.report.proofs.Counting.{window-none, window-length, window-pass}
use Rattle.report.proofs.window.ask_window.Goals as goal

pub returns-then-not-is_window : goal.returns-then-not-is_window
returns-then-not-is_window c = search (rules, window-none)

pub returns-then-n-eq-REPORT : goal.returns-then-n-eq-REPORT
returns-then-n-eq-REPORT c = search (rules, window-pass)

pub returns-else-n-eq-REPORT : goal.returns-else-n-eq-REPORT
returns-else-n-eq-REPORT c = search (rules, window-length)
