-- `programs::cardlist::status_of` meets its contract. Assumes nothing.
use Rattle.field.proofs.Base.{ap, ◌∙◌, Bool, cond}
use Rattle.programs.specs.declared.status.Status.TheVariants.{Done, NotDone}
use Rattle.programs.proofs.cardlist.status_of.Goals as goal

pub returns : goal.returns
returns c = c.done_where.ensures ∙ ap (λ (b : Bool). cond b Done NotDone) c.is_well.ensures
