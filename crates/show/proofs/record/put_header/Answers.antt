-- `show::record::put_header` meets its contract. Assumes nothing.
use Rattle.card.proofs.Writing.{appends-on}
use Rattle.show.specs.Look.{header_text}
use Rattle.show.proofs.Looking.{erasures-part}
use Rattle.show.proofs.record.put_header.Goals as goal

pub returns-clause-text : goal.returns-clause-text
unfolding header_text
returns-clause-text c =
    let n = c.named_count in
    let list = rw (erasures-part c.args.bytes.now n.result n.ensures) at c.put_list.ensures.text in
    appends-on c.put_labelled.ensures.text (appends-on c.put_bytes.ensures list)
