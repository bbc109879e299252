-- `card_csv::making::make_last` meets its contract. Assumes nothing.
use Rattle.field.proofs.Base.{rules}
use Rattle.card_csv.proofs.TextParts.{last_none, last_taken}
use Rattle.card_csv.proofs.making.make_last.Goals as goal

pub returns-then-is_empty : goal.returns-then-is_empty
returns-then-is_empty c = last_none c.args.line.now (search rules) c.args.s c.args.out.now

pub returns : goal.returns
returns c = last_taken c.args.line.now (search rules) c.args.s c.take_line.ensures.state c.take_line.ensures.records
