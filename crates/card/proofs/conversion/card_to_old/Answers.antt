-- `card::conversion::card_to_old` meets its contract. Assumes nothing.
use Rattle.field.proofs.Base.{length}
use Rattle.card.proofs.Converting.{old-asked}
use Rattle.card.proofs.conversion.card_to_old.Goals as goal

pub returns : goal.returns
returns c =
    let a = c.args in
    rw (old-asked a.card.now (length a.out.now)) at c.convert.ensures
