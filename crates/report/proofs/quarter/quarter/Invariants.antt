-- `report::quarter::quarter` meets its contract. Before a turn the text stands for no quarter hour from n on. Assumes nothing.
use Rattle.field.proofs.Base.{◌≡◌}
use Rattle.report.specs.Quarter.{quarter_below, quarter_of}
use Rattle.report.proofs.quarter.quarter.Given as goal

abbrev pub invariant-loop-n : goal.invariant-loop-n
invariant-loop-n l = quarter_of l.text ≡ quarter_below l.text l.n
