-- `code::validation::all_zero` meets its contract. Assumes nothing.
use Rattle.field.proofs.Base.{◌∙◌}
use Rattle.code.proofs.Questions.{all_zero-below}
use Rattle.code.proofs.validation.all_zero.Goals as goal

pub returns : goal.returns
returns c = c.below.ensures ∙ all_zero-below c.args.xs.now
