-- `code::word::copy` meets its contract. Assumes nothing.
use Rattle.field.proofs.Base.{rules, refl, length-set}
use Rattle.code.proofs.Loops.{copy-on, copy-end}
use Rattle.code.proofs.word.copy.Goals as goal

pub loop-i-init : goal.loop-i-init
loop-i-init c = (refl, refl)

pub loop-i-preserved : goal.loop-i-preserved
loop-i-preserved c = (simp length-set (search rules), search (rules, copy-on))

pub returns : goal.returns
returns c = search (rules, copy-end)
