-- `programs::cardsheets::tell_card` meets its contract. Assumes nothing.
use Rattle.field.proofs.Base.{rules}
use Rattle.programs.proofs.Batches.{asked-yes}
use Rattle.programs.proofs.Telling.{tells-start, tells-ready, tells_more, tells-card}
use Rattle.programs.proofs.cardsheets.tell_card.Goals as goal

pub loop-init : goal.loop-init
loop-init c = tells-start _ c.begin-t.ensures

pub returns-then-not-goes_on : goal.returns-then-not-goes_on
returns-then-not-goes_on c =
    let turn = c.loop in tells-card turn.counter turn.t turn.invariant

pub tell_batch-t-requires : goal.tell_batch-t-requires
tell_batch-t-requires c =
    let turn = c.loop in
    tells-ready turn.counter turn.t turn.invariant (search rules) (asked-yes c.goes_on.ensures (search rules))

pub loop-preserved : goal.loop-preserved
loop-preserved c =
    let turn = c.loop in
    tells_more turn.counter turn.t turn.invariant (search rules) (asked-yes c.goes_on.ensures (search rules)) _
    c.tell_batch-t.ensures

pub returns : goal.returns
returns c =
    let turn = c.loop in tells-card turn.counter turn.t turn.invariant
