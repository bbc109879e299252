-- `programs::cardcheck::check_next` meets its contract. Assumes nothing.
use Rattle.field.proofs.Base.{refl, arith}
use Rattle.programs.proofs.Batches.{front-size}
use Rattle.programs.proofs.Checking.{searches-batch}
use Rattle.programs.proofs.cardcheck.check_next.Goals as goal

pub read_batch-input-requires : goal.read_batch-input-requires
read_batch-input-requires c =
    let p = c.requires.0 in (p.going, p.well, omega (arith, p.small))

pub check_batch-found-requires : goal.check_batch-found-requires
check_batch-found-requires c =
    let x = c.read_batch-input in
    let n = c.count in
    let l = front-size x.new.buf n.ensures x.ensures.most in
    (omega (arith, l, n.ensures, x.ensures.most, x.ensures.size), c.requires.1, c.requires.2)

pub returns : goal.returns
returns c = searches-batch c.args.slots c.args.i _ c.read_batch-input.ensures refl c.count.ensures c.check_batch-found.ensures
