-- `card_csv::lines::put_counts` meets its contract: words and numbers stand one behind the other. Assumes nothing.
use Rattle.field.proofs.Base.{append_assoc}
use Rattle.card.proofs.Writing.{appends-on}
use Rattle.card_csv.proofs.lines.put_counts.Goals as goal

pub returns : goal.returns
returns c =
    let two = appends-on c.put_bytes.ensures c.put_field.ensures.written in
    let four = appends-on two (appends-on c.put_bytes-2.ensures c.put_field-2.ensures.written) in
    simp append_assoc at (appends-on four (appends-on c.put_bytes-3.ensures c.put_field-3.ensures.written))
