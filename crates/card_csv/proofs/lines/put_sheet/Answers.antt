-- `card_csv::lines::put_sheet` meets its contract: the columns stand one behind the other. Assumes nothing.
use Rattle.field.proofs.Base.{append_assoc}
use Rattle.card.proofs.Writing.{appends-on}
use Rattle.card_csv.specs.Text.{sheet_columns}
use Rattle.card_csv.proofs.lines.put_sheet.Goals as goal

pub returns-clause-text : goal.returns-clause-text
unfolding sheet_columns
returns-clause-text c =
    let two = appends-on c.put_field.ensures.written c.put_date.ensures.text in
    let four = appends-on (appends-on two c.put_byte.ensures) c.put_small.ensures.text in
    let six = appends-on (appends-on four c.put_byte-2.ensures) c.put_small-2.ensures.text in
    let eight = appends-on (appends-on six c.put_columns.ensures.text) c.put_byte-3.ensures in
    simp append_assoc (simp append_assoc at eight)
