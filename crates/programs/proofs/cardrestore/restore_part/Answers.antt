-- `programs::cardrestore::restore_part` meets its contract. Assumes nothing.
use Rattle.programs.proofs.Restoring.{restored-writable, restored-part}
use Rattle.programs.proofs.cardrestore.restore_part.Goals as goal

pub write_restored-output-requires : goal.write_restored-output-requires
write_restored-output-requires c =
    let x = c.restore_counting-progress in
    restored-writable c.args.most c.args.s c.args.o x.ensures c.requires.1

pub returns : goal.returns
returns c =
    let x = c.restore_counting-progress in
    restored-part c.args.most c.args.s c.args.o x.ensures c.write_restored-output.ensures
