-- `programs::intake::take_rest` meets its contract. Assumes nothing.
use Rattle.field.proofs.Base.{rules}
use Rattle.programs.proofs.Batches.{asked-yes, asked-no}
use Rattle.programs.proofs.Cutting.{rest-stopped, rest-long, rest-open}
use Rattle.programs.proofs.intake.take_rest.Goals as goal

pub returns-then-not-goes_on : goal.returns-then-not-goes_on
returns-then-not-goes_on c = rest-stopped c.requires (asked-no c.goes_on.ensures (search rules))

pub take_last-requires : goal.take_last-requires
take_last-requires c = (c.requires, asked-yes c.goes_on.ensures (search rules), asked-yes c.ended.ensures (search rules))

pub returns-then-t-eq-TEXT : goal.returns-then-t-eq-TEXT
returns-then-t-eq-TEXT c = rw c.refuse_long.ensures (rest-long c.requires (asked-no c.ended.ensures (search rules)))

pub returns : goal.returns
returns c = rest-open c.requires (asked-yes c.goes_on.ensures (search rules)) (asked-no c.ended.ensures (search rules))
