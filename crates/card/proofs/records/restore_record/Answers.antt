-- `card::records::restore_record` meets its contract. Assumes nothing.
use Rattle.field.proofs.Base.{rules}
use Rattle.card.proofs.Reaches.{restores-two}
use Rattle.card.proofs.records.restore_record.Goals as goal

pub returns : goal.returns
returns c = search (rules, restores-two)
