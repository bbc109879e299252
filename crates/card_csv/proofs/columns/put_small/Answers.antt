-- `card_csv::columns::put_small` meets its contract: one, two or three digits. Assumes nothing.
use Rattle.field.proofs.Base.{rules}
use Rattle.card_csv.proofs.Digits.{digits-written}
use Rattle.card_csv.proofs.columns.put_small.Goals as goal

pub returns-clause-text : goal.returns-clause-text
returns-clause-text c =
    let a = c.put_byte_if.ensures in
    let b = c.put_byte_if-2.ensures in
    digits-written c.args.n (search rules) (search rules) (search rules) a.stays a.covered b.stays b.covered c.put_byte.ensures
