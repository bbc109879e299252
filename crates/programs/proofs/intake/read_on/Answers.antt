-- `programs::intake::read_on` meets its contract. Assumes nothing.
use Rattle.programs.proofs.Cutting.{reads_on}
use Rattle.programs.proofs.intake.read_on.Goals as goal

pub returns : goal.returns
returns c =
    let p = c.requires in reads_on c.args.kept c.args.buf.now p.1 p.2 c.read_batch.ensures
