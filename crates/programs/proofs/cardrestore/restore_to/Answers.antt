-- `programs::cardrestore::restore_to` meets its contract. Assumes nothing.
use Rattle.programs.proofs.Restoring.{restored-sound}
use Rattle.programs.proofs.cardrestore.restore_to.Goals as goal

pub end_restoring-requires : goal.end_restoring-requires
end_restoring-requires c = restored-sound _ _ c.restore_card-t.ensures
