-- `programs::seek::seek_batch` meets its contract. Assumes nothing.
use Rattle.field.proofs.Base.{refl, arith}
use Rattle.programs.proofs.Seeking.{seeks-batch}
use Rattle.programs.proofs.Batches.{front-size}
use Rattle.programs.proofs.seek.seek_batch.Goals as goal

pub read_batch-input-requires : goal.read_batch-input-requires
read_batch-input-requires c =
    let p = c.requires.0 in (p.going, p.well, omega (arith, p.small))

pub keep_slot-len-requires : goal.keep_slot-len-requires
keep_slot-len-requires c =
    let x = c.read_batch-input in
    let n = c.count in
    let l = front-size x.new.buf n.ensures x.ensures.most in
    (omega (arith, l, n.ensures, x.ensures.most, x.ensures.size), c.requires.1)

pub returns : goal.returns
returns c = seeks-batch c.args.k c.args.i _ c.read_batch-input.ensures refl c.count.ensures c.keep_slot-len.ensures.slot c.keep_slot-len.ensures.room
