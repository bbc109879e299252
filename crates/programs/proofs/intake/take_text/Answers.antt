-- `programs::intake::take_text` meets its contract. Assumes nothing.
use Rattle.field.proofs.Base.{refl}
use Rattle.std.specs.Prelude.{is_some}
use Rattle.programs.proofs.Cutting.{parts-start}
use Rattle.programs.proofs.intake.take_text.Goals as goal

pub take_parts-t-requires : goal.take_parts-t-requires
take_parts-t-requires c = parts-start (is_some c.args.to) c.new-2.ensures c.new.ensures refl
