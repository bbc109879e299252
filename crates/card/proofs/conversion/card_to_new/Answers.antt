-- `card::conversion::card_to_new` meets its contract. Assumes nothing.
use Rattle.field.proofs.Base.{length}
use Rattle.card.proofs.Converting.{new-asked}
use Rattle.card.proofs.conversion.card_to_new.Goals as goal

pub returns : goal.returns
returns c =
    let a = c.args in
    rw (new-asked a.card.now (length a.out.now)) at c.convert.ensures
