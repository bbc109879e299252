-- `programs::cardstarts::add_batches` meets its contract. Before turn i the report has come over i whole batches. Assumes nothing.
use Rattle.field.proofs.Base.{◌≡◌, true, ◌*◌}
use Rattle.card.specs.Batch.{batch_size}
use Rattle.report.specs.Window.{no_report, part_added}
use Rattle.programs.specs.inner.Turns.{TookAll}
use Rattle.programs.proofs.cardstarts.add_batches.Given as goal

abbrev pub invariant-loop : goal.invariant-loop
invariant-loop l = (l.input.going ≡ true) × TookAll (part_added l.w) (l.counter * batch_size) no_report l.report l.input
