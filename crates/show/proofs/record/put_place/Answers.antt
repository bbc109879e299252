-- `show::record::put_place` meets its contract. Assumes nothing.
use Rattle.field.proofs.Base.{sym}
use Rattle.card.proofs.Writing.{appends-on, appends-as}
use Rattle.show.proofs.Looking.{place-other}
use Rattle.show.proofs.record.put_place.Goals as goal

pub returns-then-a-b-clause-text : goal.returns-then-a-b-clause-text
returns-then-a-b-clause-text c =
    let a = c.args in
    let last = appends-on c.put_labelled-then-a-b-2.ensures.text c.put_byte.ensures in
    let line = appends-on c.put_labelled.ensures.text (appends-on c.put_labelled-then-a-b.ensures.text last) in
    appends-as (sym (place-other a.p.0 a.a a.b c.if-a-b.true)) line
