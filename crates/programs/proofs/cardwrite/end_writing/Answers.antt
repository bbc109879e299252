-- `programs::cardwrite::end_writing` meets its contract. Assumes nothing.
use Rattle.field.proofs.Base.{rules, refl, inl, inr, ⊎_elim}
use Rattle.programs.specs.declared.status.Status.TheVariants.{Done, NotDone}
use Rattle.programs.proofs.Batches.{asked-yes}
use Rattle.programs.proofs.Choosing.{either-way}
use Rattle.programs.proofs.Cutting.{accepted-ended, accepted-written, card-written}
use Rattle.programs.proofs.cardwrite.end_writing.Goals as goal

pub returns-then-not-is_accepted : goal.returns-then-not-is_accepted
returns-then-not-is_accepted c = inr refl

pub publish-requires : goal.publish-requires
publish-requires c =
    let t = c.args.t in
    let w = asked-yes c.is_accepted.ensures (search rules) in
    (accepted-ended t w, accepted-written t w)

pub returns : goal.returns
returns c =
    let w = asked-yes c.is_accepted.ensures (search rules) in
    rw c.done_where.ensures
    (⊎_elim (λ e. inl (w, card-written c.args.t w c.requires, e)) (λ e. inr e) (either-way c.publish.result Done NotDone))
