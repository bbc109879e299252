-- `code::validation::all_different` meets its contract. Assumes nothing.
use Rattle.field.proofs.Base.{rules}
use Rattle.code.proofs.Questions.{distinct-on, distinct-stop}
use Rattle.code.proofs.validation.all_different.Goals as goal

pub returns-then-contains : goal.returns-then-contains
returns-then-contains c = search (rules, distinct-stop)

pub loop-i-preserved : goal.loop-i-preserved
loop-i-preserved c = search (rules, distinct-on)
