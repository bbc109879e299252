-- `programs::help::print` meets its contract. Assumes nothing.
use Rattle.field.proofs.Base.{rules}
use Rattle.programs.proofs.Streaming.{first_part}
use Rattle.programs.proofs.help.print.Goals as goal

pub print_part-requires : goal.print_part-requires
print_part-requires c = first_part _ _ c.new.ensures (search rules)
