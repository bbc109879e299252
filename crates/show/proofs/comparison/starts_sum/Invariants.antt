-- `show::comparison::starts_sum` meets its contract. Before each turn the counts so far are summed. Assumes nothing.
use Rattle.field.proofs.Base.{◌≡◌, ◌+◌, ◌*◌, ◌≤◌, drop}
use Rattle.report.specs.Window.{starts_sum}
use Rattle.show.proofs.comparison.starts_sum.Given as goal

abbrev pub invariant-loop-count : goal.invariant-loop-count
invariant-loop-count l = (l.sum + starts_sum (drop l.count-index l.counts) ≡ starts_sum l.counts) × (l.sum ≤ l.count-index * 255)
