-- `exports::bays::restore_in_bay` meets its contract. Assumes nothing.
use Rattle.field.proofs.Base.{rules}
use Rattle.exports.proofs.Counting.{lent-again, five-counts}
use Rattle.exports.proofs.bays.restore_in_bay.Goals as goal

pub read_counts-requires : goal.read_counts-requires
read_counts-requires c = search (rules, five-counts)

pub returns-in_err-served-clause-counts : goal.returns-in_err-served-clause-counts
returns-in_err-served-clause-counts c =
    let same = lent-again c.args.left.now (search (rules, five-counts)) in search (rules, same)

pub write_counts-requires : goal.write_counts-requires
write_counts-requires c = search (rules, five-counts)
