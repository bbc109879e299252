-- `programs::cardrestore::restore_batch` meets its contract. Assumes nothing.
use Rattle.field.proofs.Base.{refl, arith}
use Rattle.programs.proofs.Batches.{front-size}
use Rattle.programs.proofs.Restoring.{restores-batch}
use Rattle.programs.proofs.cardrestore.restore_batch.Goals as goal

pub read_batch-input-requires : goal.read_batch-input-requires
read_batch-input-requires c =
    let p = c.requires.input in (p.going, p.well, omega (arith, p.small))

pub restore_part-restored-requires : goal.restore_part-restored-requires
restore_part-restored-requires c =
    let x = c.read_batch-input in
    let n = c.count in
    let p = c.requires in
    let l = front-size x.new.buf n.ensures x.ensures.most in
    (p.counts, record { ok = p.output.ok; small = omega (arith, p.output.small, l, n.ensures, x.ensures.most, x.ensures.size) })

pub returns : goal.returns
returns c = restores-batch c.args.most c.args.t c.read_batch-input.ensures refl c.count.ensures c.restore_part-restored.ensures
