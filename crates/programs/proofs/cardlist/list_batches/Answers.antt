-- `programs::cardlist::list_batches` meets its contract. Assumes nothing.
use Rattle.field.proofs.Base.{rules, arith}
use Rattle.programs.proofs.Batches.{denied-yes, denied-no}
use Rattle.programs.proofs.Listing.{lists-start, lists-ready, lists-more, lists-stop, lists-full}
use Rattle.programs.proofs.cardlist.list_batches.Goals as goal

pub loop-init : goal.loop-init
loop-init c = lists-start _ c.begin-t.ensures

pub returns-then-not-goes_on : goal.returns-then-not-goes_on
returns-then-not-goes_on c =
    let turn = c.loop in lists-stop _ turn.t turn.invariant (omega arith) (denied-yes c.goes_on.ensures (search rules))

pub list_batch-t-requires : goal.list_batch-t-requires
list_batch-t-requires c =
    let turn = c.loop in lists-ready turn.counter turn.t turn.invariant (search rules) (denied-no c.goes_on.ensures (search rules))

pub loop-preserved : goal.loop-preserved
loop-preserved c =
    let turn = c.loop in
    lists-more turn.counter turn.t turn.invariant (search rules) (denied-no c.goes_on.ensures (search rules)) _ c.list_batch-t.ensures

pub returns : goal.returns
returns c =
    let turn = c.loop in lists-full _ turn.t turn.invariant (omega arith) (omega arith)
