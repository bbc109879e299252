-- `code::errors::correct_pair` meets its contract. Assumes nothing.
use Rattle.code.proofs.restoring.Trying.{sums_lt}
use Rattle.code.proofs.finding.PlainWays.{pair_found, pair-out}
use Rattle.code.proofs.errors.correct_pair.Goals as goal

pub returns-then-not-all_zero : goal.returns-then-not-all_zero
returns-then-not-all_zero c =
    let a = c.args in
    λ R e hq l lp. (
    let Y = c.pair_values-y.ensures R.width (sums_lt R) hq l lp in
    pair-out R e a.p a.q l lp c.pair_values-y.result Y c.masked.result c.masked-rest.result
    (c.masked.ensures R.width Y.small.0) (c.masked-rest.ensures R.width Y.small.1)
    c.all_zero.result c.all_zero.ensures c.if-not-all_zero.true)

pub returns : goal.returns
returns c =
    let a = c.args in
    λ R e hq l lp. (
    let Y = c.pair_values-y.ensures R.width (sums_lt R) hq l lp in
    pair_found R e a.p a.q l lp c.pair_values-y.result Y c.masked.result c.masked-rest.result
    (c.masked.ensures R.width Y.small.0) (c.masked-rest.ensures R.width Y.small.1) _
    c.all_zero.result c.all_zero.ensures c.if-not-all_zero.false c.correction_of.ensures)
