-- `programs::cardcheck::status_of` meets its contract. Assumes nothing.
use Rattle.field.proofs.Base.{rules}
use Rattle.programs.proofs.Batches.{denied-yes, denied-no}
use Rattle.programs.proofs.Checking.{check-unwell, check-refused, check-ended}
use Rattle.programs.proofs.cardcheck.status_of.Goals as goal

pub returns-then-not-is_well : goal.returns-then-not-is_well
returns-then-not-is_well c =
    let s = c.args in check-unwell s.found s.i s.o (denied-yes c.is_well.ensures (search rules))

pub returns-then-found : goal.returns-then-found
returns-then-found c =
    let s = c.args in check-refused s.found s.i s.o (denied-no c.is_well.ensures (search rules)) (search rules)

pub returns : goal.returns
returns c =
    let s = c.args in check-ended s.found s.i s.o (denied-no c.is_well.ensures (search rules)) (search rules) c.done_where.ensures c.ended.ensures
