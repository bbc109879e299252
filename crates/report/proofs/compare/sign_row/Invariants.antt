-- `report::compare::sign_row` meets its contract. Assumes nothing.
use Rattle.field.proofs.Base.{ℕ, get_or}
use Rattle.code.proofs.Loops.{Filled}
use Rattle.sheet.specs.Sheet.{quarters}
use Rattle.report.specs.Compare.{sign_of}
use Rattle.report.proofs.compare.sign_row.Given as goal

abbrev pub invariant-loop-i : goal.invariant-loop-i
invariant-loop-i l = Filled ℕ 0 quarters Unit (λ k. sign_of (get_or l.controller k 0) (get_or l.cupboard k 0)) l.signs l.i
