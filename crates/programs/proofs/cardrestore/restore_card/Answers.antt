-- `programs::cardrestore::restore_card` meets its contract. Assumes nothing.
use Rattle.field.proofs.Base.{rules}
use Rattle.programs.proofs.Batches.{asked-yes}
use Rattle.programs.proofs.Restoring.{restores-start, restores-ready, restores-more, restores-card}
use Rattle.programs.proofs.cardrestore.restore_card.Goals as goal

pub loop-init : goal.loop-init
loop-init c = restores-start c.args.most _ c.begin-t.ensures

pub returns-then-not-goes_on : goal.returns-then-not-goes_on
returns-then-not-goes_on c =
    let turn = c.loop in restores-card c.args.most turn.counter turn.t turn.invariant

pub restore_batch-t-requires : goal.restore_batch-t-requires
restore_batch-t-requires c =
    let turn = c.loop in
    restores-ready c.args.most turn.counter turn.t turn.invariant (search rules) (asked-yes c.goes_on.ensures (search rules))

pub loop-preserved : goal.loop-preserved
loop-preserved c =
    let turn = c.loop in
    restores-more c.args.most turn.counter turn.t turn.invariant (search rules) (asked-yes c.goes_on.ensures (search rules)) _
    c.restore_batch-t.ensures

pub returns : goal.returns
returns c =
    let turn = c.loop in restores-card _ turn.counter turn.t turn.invariant
