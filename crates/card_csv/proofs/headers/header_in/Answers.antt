-- `card_csv::headers::header_in` meets its contract. Assumes nothing.
use Rattle.field.proofs.Base.{rules}
use Rattle.card_csv.specs.Reading.{header_in}
use Rattle.card_csv.proofs.headers.header_in.Goals as goal

pub returns-then-is_header : goal.returns-then-is_header
unfolding header_in
returns-then-is_header c = search rules

pub returns-then-is_header-2 : goal.returns-then-is_header-2
unfolding header_in
returns-then-is_header-2 c = search rules

pub returns : goal.returns
unfolding header_in
returns c = search rules
