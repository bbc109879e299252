-- `report::window::add_part` meets its contract. Before turn i the first i slots have entered. Assumes nothing.
use Rattle.field.proofs.Base.{◌≡◌}
use Rattle.report.proofs.Reports.{slots_added}
use Rattle.report.proofs.window.add_part.Given as goal

abbrev pub invariant-loop-i : goal.invariant-loop-i
invariant-loop-i l = l.report ≡ slots_added l.w l.initial.report l.part l.i
