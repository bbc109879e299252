-- `card_csv::making::take_sheet` meets its contract. Assumes nothing.
use Rattle.field.proofs.Base.{sym, ◌∙◌}
use Rattle.card_csv.proofs.LineSheets.{read-sheet}
use Rattle.card_csv.proofs.Taking.{sheet-long}
use Rattle.card_csv.proofs.making.take_sheet.Goals as goal

pub put_record-requires : goal.put_record-requires
put_record-requires c =
    let line = sym c.read_line.ensures ∙ c.in-Ok.is in
    (c.requires.1 (sheet-long _ _ _ line), read-sheet _ _ _ line)
