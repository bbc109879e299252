-- `walk::counting::put_restored` meets its contract: four items stand one behind the other. Assumes nothing.
use Rattle.field.proofs.Base.{append_assoc}
use Rattle.card.proofs.Writing.{appends-on}
use Rattle.walk.proofs.counting.put_restored.Goals as goal

pub returns : goal.returns
returns c =
    let two = appends-on c.put_item.ensures.text c.put_item-2.ensures.text in
    let three = appends-on two c.put_item-3.ensures.text in
    simp append_assoc at (appends-on three c.put_item-4.ensures.text)
