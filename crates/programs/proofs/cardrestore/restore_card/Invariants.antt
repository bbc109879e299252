-- `programs::cardrestore::restore_card` meets its contract. Assumes nothing.
use Rattle.field.proofs.Base.{◌*◌}
use Rattle.card.specs.Batch.{batch_size}
use Rattle.programs.specs.inner.Restores.{RestoresSome}
use Rattle.programs.proofs.cardrestore.restore_card.Given as goal

abbrev pub invariant-loop : goal.invariant-loop
invariant-loop l = RestoresSome (l.counter * batch_size) l.most l.t
