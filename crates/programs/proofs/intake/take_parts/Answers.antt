-- `programs::intake::take_parts` meets its contract. Assumes nothing.
use Rattle.field.proofs.Base.{rules, arith}
use Rattle.programs.proofs.Batches.{asked-yes}
use Rattle.programs.proofs.Cutting.{parts-ready, parts_more}
use Rattle.programs.proofs.intake.take_parts.Goals as goal

pub loop-init : goal.loop-init
loop-init c = c.requires

pub returns-then-not-is_open : goal.returns-then-not-is_open
returns-then-not-is_open c = parts-ready c.loop.invariant (omega arith)

pub take_part-t-requires : goal.take_part-t-requires
take_part-t-requires c = (parts-ready c.loop.invariant (omega arith), asked-yes c.is_open.ensures (search rules))

pub loop-preserved : goal.loop-preserved
loop-preserved c = parts_more c.loop.invariant (omega arith) (asked-yes c.is_open.ensures (search rules)) c.take_part-t.ensures

pub returns : goal.returns
returns c = parts-ready c.loop.invariant (omega arith)
