-- `report::compare::count` meets its contract. Before each turn the sign stood n times. Assumes nothing.
use Rattle.field.proofs.Base.{◌≡◌, ◌+◌, ◌≤◌, drop}
use Rattle.code.specs.Demands.{occurs}
use Rattle.report.proofs.compare.count.Given as goal

abbrev pub invariant-loop-x : goal.invariant-loop-x
invariant-loop-x l = (l.n ≤ l.x-index) × (l.n + occurs l.s (drop l.x-index l.signs) ≡ occurs l.s l.signs)
