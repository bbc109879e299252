-- `show::record::put_syndromes` meets its contract. Assumes nothing.
use Rattle.field.proofs.Base.{sym, ap, ◌∙◌}
use Rattle.card.proofs.Writing.{appends-none, appends-on, appends-as}
use Rattle.show.proofs.Looking.{told_line, syndromes-told}
use Rattle.show.proofs.record.put_syndromes.Goals as goal

pub returns-in-Ok-clause-text : goal.returns-in-Ok-clause-text
returns-in-Ok-clause-text c =
    let n = c.named_count-last in
    let l = c.word_length-end in
    let x = c.syndromes in
    appends-as (ap told_line (sym c.in-Ok.is) ∙ syndromes-told c.args.bytes.now n.result l.result x.result n.ensures l.ensures x.ensures)
    (appends-on c.put_bytes.ensures c.put_list.ensures.text)

pub returns-in_default-clause-text : goal.returns-in_default-clause-text
returns-in_default-clause-text c =
    let n = c.named_count-last in
    let l = c.word_length-end in
    let x = c.syndromes in
    appends-as (ap told_line (sym c.in_default.is) ∙ syndromes-told c.args.bytes.now n.result l.result x.result n.ensures l.ensures x.ensures)
    (appends-none c.args.out.now)
