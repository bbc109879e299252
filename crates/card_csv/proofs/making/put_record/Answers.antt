-- `card_csv::making::put_record` meets its contract. Assumes nothing.
use Rattle.field.proofs.Base.{◌∙◌}
use Rattle.card.proofs.Writing.{appends-as}
use Rattle.card_csv.proofs.SheetRecords.{made-sheet}
use Rattle.card_csv.proofs.making.put_record.Goals as goal

pub returns : goal.returns
returns c = appends-as (c.record_of.ensures ∙ made-sheet c.args.symbols.now c.requires.1) c.put_bytes.ensures
