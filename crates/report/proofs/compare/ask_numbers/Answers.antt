-- `report::compare::ask_numbers` meets its contract. Assumes nothing.
use Rattle.std.proofs.Common.{true, false, refl, sym, ◌∙◌}
use Rattle.report.proofs.Comparing.{numbers-are}
use Rattle.report.proofs.compare.ask_numbers.Goals as goal
use Rattle.report.proofs.compare.ask_numbers.Goals.{else-has_record-via-then-has_record+else-has_record-2, else-has_record-via-else-has_record}

pub returns-then-has_record-2 : goal.returns-then-has_record-2
returns-then-has_record-2 c =
    let a = c.args in
    numbers-are a.controller.now a.i a.cupboard.now a.j true true (sym c.if-has_record.true ∙ c.has_record.ensures)
    (sym c.if-has_record-2.true ∙ c.has_record-then-has_record.ensures)

pub returns-else-has_record : goal.returns-else-has_record
returns-else-has_record c =
    let a = c.args in
    elim c.else-has_record.branch [
      | else-has_record-via-then-has_record+else-has_record-2 w ↦
          numbers-are a.controller.now a.i a.cupboard.now a.j true false (sym w.if-has_record.true ∙ c.has_record.ensures)
          (sym w.if-has_record-2.false ∙ w.has_record-then-has_record.ensures)
      | else-has_record-via-else-has_record w ↦
          numbers-are a.controller.now a.i a.cupboard.now a.j false _ (sym w.if-has_record.false ∙ c.has_record.ensures) refl
    ]
