-- `programs::cardconvert::copy_card` meets its contract. Assumes nothing.
use Rattle.field.proofs.Base.{rules, arith}
use Rattle.programs.proofs.Batches.{asked-yes}
use Rattle.programs.proofs.Converting.{copies-readable, copies-card}
use Rattle.programs.proofs.cardconvert.copy_card.Goals as goal

pub read_batch-input-requires : goal.read_batch-input-requires
read_batch-input-requires c =
    let i = copies-readable c.in_ok-c.ensures c.requires.2 c.requires.1 in
    (i.going, i.well, omega (arith, i.small))

pub returns-then-count-eq0 : goal.returns-then-count-eq0
returns-then-count-eq0 c =
    copies-card c.in_ok-c.ensures c.read_batch-input.ensures (asked-yes c.ended.ensures (search rules)) (omega (arith, c.count.ensures))
