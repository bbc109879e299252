-- `programs::cardwrite::is_accepted` meets its contract. Assumes nothing.
use Rattle.field.proofs.Base.{rules, lt-ltb, le-ltb}
use Rattle.programs.proofs.Batches.{asked-yes, asked-no}
use Rattle.programs.proofs.Cutting.{accepted-unended, accepted-asked, accepted-empty}
use Rattle.programs.proofs.cardwrite.is_accepted.Goals as goal

pub returns-then-not-ended : goal.returns-then-not-ended
returns-then-not-ended c = accepted-unended c.args.t (asked-no c.ended.ensures (search rules))

pub returns-then-t-gt0 : goal.returns-then-t-gt0
returns-then-t-gt0 c = accepted-asked c.args.t (asked-yes c.ended.ensures (search rules)) (lt-ltb 0 c.args.t.state.lines (search rules)) c.goes_on.ensures

pub returns-else-t-gt0 : goal.returns-else-t-gt0
returns-else-t-gt0 c = accepted-empty c.args.t (asked-yes c.ended.ensures (search rules)) (le-ltb 0 c.args.t.state.lines (search rules))
