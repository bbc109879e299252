-- `show::record::put_look` meets its contract. Assumes nothing.
use Rattle.field.proofs.Base.{sym, ◌∙◌}
use Rattle.card.proofs.Writing.{appends-on, appends-as}
use Rattle.show.proofs.Looking.{look-blank}
use Rattle.show.proofs.record.put_look.Goals as goal

pub returns-then-is_blank : goal.returns-then-is_blank
returns-then-is_blank c =
    let a = c.args in
    appends-as (sym (look-blank a.n a.slot.now (sym c.is_blank.ensures ∙ c.if-is_blank.true)))
    (appends-on c.put_labelled.ensures.text (appends-on c.put_byte.ensures c.put_bytes.ensures))
