-- `programs::intake::take_parts` meets its contract. Assumes nothing.
use Rattle.field.proofs.Base.{◌*◌}
use Rattle.card_csv.specs.inner.Room.{text_size, records_room}
use Rattle.std.specs.Prelude.{is_some}
use Rattle.programs.specs.inner.Cuts.{TakesParts}
use Rattle.programs.proofs.intake.take_parts.Given as goal

abbrev pub invariant-loop : goal.invariant-loop
invariant-loop l = TakesParts (is_some l.to) (l.counter * text_size) (l.counter * records_room) l.t l.buf
