-- `programs::intake::put_records` meets its contract. Assumes nothing.
use Rattle.field.proofs.Base.{sym, ap, ◌∙◌, false≢true}
use Rattle.std.specs.Prelude.{is_some}
use Rattle.programs.proofs.intake.put_records.Goals as goal

pub returns-in-None : goal.returns-in-None
returns-in-None c w = absurd (false≢true (sym (ap is_some c.in-None.is) ∙ w))

pub write_records-requires : goal.write_records-requires
write_records-requires c = c.requires (ap is_some c.in-Some.is)
