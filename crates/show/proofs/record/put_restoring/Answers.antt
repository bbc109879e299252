-- `show::record::put_restoring` meets its contract. Assumes nothing.
use Rattle.field.proofs.Base.{sym}
use Rattle.card.proofs.Writing.{appends-on, appends-as}
use Rattle.show.proofs.Looking.{restoring-done}
use Rattle.show.proofs.record.put_restoring.Goals as goal

pub returns-in-Ok : goal.returns-in-Ok
returns-in-Ok c =
    let a = c.args in
    let last = appends-on c.put_places.ensures.text c.put_day.ensures.text in
    appends-as (sym (restoring-done a.n a.bytes.now c.restored_copy.result c.restored_copy.ensures c.in-Ok.restored c.in-Ok.is))
    (appends-on c.put_labelled.ensures.text (appends-on c.put_byte.ensures last))
