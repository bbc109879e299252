-- `programs::cardstarts::add_batch` meets its contract. Assumes nothing.
use Rattle.field.proofs.Base.{refl, arith}
use Rattle.programs.proofs.Batches.{front-size}
use Rattle.programs.proofs.Tabling.{adds-batch}
use Rattle.programs.proofs.cardstarts.add_batch.Goals as goal

pub read_batch-input-requires : goal.read_batch-input-requires
read_batch-input-requires c =
    let i = c.requires.0 in (i.going, i.well, omega (arith, i.small))

pub add_part-requires : goal.add_part-requires
add_part-requires c =
    let y = c.read_batch-input in
    let x = c.count in
    let l = front-size y.new.buf x.ensures y.ensures.most in
    (c.requires.1, omega (arith, l, x.ensures, y.ensures.most, y.ensures.size), c.requires.2)

pub returns : goal.returns
returns c =
    let y = c.read_batch-input in
    let x = c.count in
    adds-batch c.args.w c.args.report.now _ y.ensures refl x.ensures c.add_part.ensures
