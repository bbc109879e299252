-- `show::comparison::put_quarters` meets its contract. Before turn i the lines of the quarter hours below i are written. Assumes nothing.
use Rattle.field.proofs.Base.{◌+◌, ◌*◌, ◌≤◌}
use Rattle.card.specs.Text.{Appends}
use Rattle.show.specs.Text.{texts}
use Rattle.show.specs.Comparison.{quarter_at}
use Rattle.show.specs.inner.Comparison.{longest_quarter}
use Rattle.show.proofs.comparison.put_quarters.Given as goal

abbrev pub invariant-loop-i : goal.invariant-loop-i
invariant-loop-i l = Appends l.initial.out (texts (quarter_at l.ss l.ts) l.i) l.out × (l.initial.out.room ≤ l.i * longest_quarter + l.out.room)
