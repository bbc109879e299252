-- `programs::seek::seek` meets its contract. Assumes nothing.
use Rattle.programs.proofs.Seeking.{seeks-some, passed-more}
use Rattle.programs.proofs.Batches.{asked-yes}
use Rattle.programs.proofs.seek.seek.Goals as goal

pub returns-then-is_some : goal.returns-then-is_some
returns-then-is_some c =
    let turn = c.loop-i in seeks-some c.args.k turn.i turn.input turn.invariant c.seek_batch-next.ensures

pub loop-i-preserved : goal.loop-i-preserved
loop-i-preserved c =
    let turn = c.loop-i in
    passed-more c.args.k turn.i turn.input turn.invariant c.seek_batch-next.ensures c.if-is_some.ensures (asked-yes c.going.ensures c.if-not-going.false)
