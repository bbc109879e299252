-- `report::compare::compare_sheets` meets its contract. Assumes nothing.
use Rattle.report.proofs.Comparing.{part-handed}
use Rattle.report.proofs.compare.compare_sheets.Goals as goal

pub returns : goal.returns
returns c =
    let told = c.in_ok-comparison.ensures in (told, part-handed _ _ _ _ _ told _ c.chosen_part-part.ensures)
