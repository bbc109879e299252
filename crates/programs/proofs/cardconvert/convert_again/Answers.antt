-- `programs::cardconvert::convert_again` meets its contract. Assumes nothing.
use Rattle.programs.proofs.Converting.{asked-slots}
use Rattle.programs.proofs.cardconvert.convert_again.Goals as goal

pub copy_card-copied-requires : goal.copy_card-copied-requires
copy_card-copied-requires c = (c.requires.0, c.requires.1, asked-slots c.requires.2.asks)
