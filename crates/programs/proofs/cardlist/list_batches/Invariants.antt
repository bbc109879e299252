-- `programs::cardlist::list_batches` meets its contract. Assumes nothing.
use Rattle.field.proofs.Base.{◌*◌}
use Rattle.card.specs.Batch.{batch_size}
use Rattle.programs.specs.inner.Lists.{ListsSome}
use Rattle.programs.proofs.cardlist.list_batches.Given as goal

abbrev pub invariant-loop : goal.invariant-loop
invariant-loop l = ListsSome (l.counter * batch_size) l.t
