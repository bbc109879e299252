-- `programs::cardconvert::copy_batch` meets its contract. Assumes nothing.
use Rattle.field.proofs.Base.{refl}
use Rattle.programs.proofs.cardconvert.copy_batch.Goals as goal

pub copy_part-requires : goal.copy_part-requires
copy_part-requires c = record { buf_len = (refl, refl); fine = c.requires }
