-- `programs::arguments::is_standard` meets its contract. Assumes nothing.
use Rattle.field.proofs.Base.{◌∙◌, ap, not}
use Rattle.programs.proofs.Roles.{tested, standard-named}
use Rattle.programs.proofs.arguments.is_standard.Goals as goal

pub returns-else-is_none : goal.returns-else-is_none
returns-else-is_none c =
    standard-named c.args.place c.args.text.now c.same.result (c.is_none.ensures ∙ ap not c.if-is_none.false) (tested _ c.same.ensures)
