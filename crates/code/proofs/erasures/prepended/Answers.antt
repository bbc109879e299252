-- `code::erasures::prepended` meets its contract. Assumes nothing.
use Rattle.code.proofs.Places.{copied-behind}
use Rattle.code.proofs.erasures.prepended.Goals as goal

pub returns : goal.returns
returns c = copied-behind c.args.p.0 c.args.places.now _ _ c.copy_from_slice.ensures.after
