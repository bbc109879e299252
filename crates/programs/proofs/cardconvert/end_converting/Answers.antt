-- `programs::cardconvert::end_converting` meets its contract. Assumes nothing.
use Rattle.field.proofs.Base.{rules, refl, inl, inr, ⊎_elim}
use Rattle.programs.specs.declared.status.Status.TheVariants.{Done, NotDone}
use Rattle.programs.specs.Convert.{CopiesCard}
use Rattle.programs.proofs.Choosing.{either-way}
use Rattle.programs.proofs.cardconvert.end_converting.Goals as goal

pub publish-requires : goal.publish-requires
publish-requires c =
    let C : CopiesCard c.args.k c.args.slots c.in-Ok.c = rw c.in-Ok.is at c.requires in (C.ended, C.ok)

pub returns-in-Ok : goal.returns-in-Ok
returns-in-Ok c = rw c.done_where.ensures (⊎_elim (λ e. inl (search rules, e)) (λ e. inr e) (either-way c.publish.result Done NotDone))

pub returns-in-Err : goal.returns-in-Err
returns-in-Err c = inr refl
