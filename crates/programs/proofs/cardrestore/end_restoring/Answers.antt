-- `programs::cardrestore::end_restoring` meets its contract. Assumes nothing.
use Rattle.field.proofs.Base.{rules, refl, inl, inr}
use Rattle.programs.proofs.Batches.{whole, whole-ended, whole-written}
use Rattle.programs.proofs.cardrestore.end_restoring.Goals as goal

pub returns-then-not-is_whole : goal.returns-then-not-is_whole
returns-then-not-is_whole c = inr refl

pub publish-requires : goal.publish-requires
publish-requires c =
    let e = c.is_whole.ensures in let t = c.args.t in (whole-ended t e (search rules), whole-written t e (search rules))

pub returns-then-not-publish : goal.returns-then-not-publish
returns-then-not-publish c = inr refl

pub say_restored-requires : goal.say_restored-requires
say_restored-requires c = (whole c.args.t c.is_whole.ensures (search rules), c.requires)

pub status_of-requires : goal.status_of-requires
status_of-requires c = whole c.args.t c.is_whole.ensures (search rules)

pub returns : goal.returns
returns c = inl (whole c.args.t c.is_whole.ensures (search rules), c.status_of.ensures)
