-- `walk::show` meets its contract. Assumes nothing.
use Rattle.field.proofs.Base.{rules}
use Rattle.walk.proofs.Looking.{shows-yes}
use Rattle.walk.proofs.show.Goals as goal

pub returns : goal.returns
returns c = shows-yes _ _ _ c.restored_copy.ensures c.in_ok-restored.restored (search rules) _ (search rules)
