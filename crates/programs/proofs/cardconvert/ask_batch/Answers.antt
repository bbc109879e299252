-- `programs::cardconvert::ask_batch` meets its contract. Assumes nothing.
use Rattle.field.proofs.Base.{refl}
use Rattle.programs.proofs.cardconvert.ask_batch.Goals as goal

pub ask_into-requires : goal.ask_into-requires
ask_into-requires c = (refl, c.requires.0, c.requires.1, c.requires.2)
