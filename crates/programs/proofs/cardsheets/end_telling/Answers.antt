-- `programs::cardsheets::end_telling` meets its contract. Assumes nothing.
use Rattle.field.proofs.Base.{rules, refl, inr}
use Rattle.programs.proofs.Batches.{whole}
use Rattle.programs.proofs.cardsheets.end_telling.Goals as goal

pub returns-then-not-is_whole : goal.returns-then-not-is_whole
returns-then-not-is_whole c = inr refl

pub status_of-requires : goal.status_of-requires
status_of-requires c = whole c.args.t c.is_whole.ensures (search rules)

pub say_counts-requires : goal.say_counts-requires
say_counts-requires c = whole c.args.t c.is_whole.ensures (search rules)
