-- `exports::bays::ask_bay` meets its contract. Assumes nothing.
use Rattle.field.proofs.Base.{rules}
use Rattle.exports.proofs.Counting.{asked-bay, asked-counts, asked-passed}
use Rattle.exports.proofs.bays.ask_bay.Goals as goal

pub returns-then-bay-gt3 : goal.returns-then-bay-gt3
returns-then-bay-gt3 c = search (rules, asked-bay)

pub returns-then-n-ne-COUNTS : goal.returns-then-n-ne-COUNTS
returns-then-n-ne-COUNTS c = search (rules, asked-counts)

pub returns : goal.returns
returns c = search (rules, asked-passed)
