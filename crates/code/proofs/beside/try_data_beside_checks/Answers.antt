-- `code::beside::try_data_beside_checks` meets its contract. Assumes nothing.
use Rattle.code.specs.inner.Correction.{places_of}
use Rattle.code.proofs.finding.BesideWays.{between-linear, between-square}
use Rattle.code.proofs.beside.try_data_beside_checks.Goals as goal

pub returns-then-s-eq1 : goal.returns-then-s-eq1
returns-then-s-eq1 c =
    let a = c.args in
    λ R bs O. between-linear a.width R.width a.word.now (places_of a.t) a.t.sums _ a.c.0 a.d.0 c.rows_between-s.result
    c.rows_between-s.ensures bs O c.if-s-eq1.true (c.try_root.ensures R)

pub returns-else-s-eq1 : goal.returns-else-s-eq1
returns-else-s-eq1 c =
    let a = c.args in
    λ R bs O. between-square a.width R.width a.word.now (places_of a.t) a.t.sums _ a.c.0 a.d.0 c.rows_between-s.result
    c.rows_between-s.ensures bs O (λ e. c.if-s-eq1.false e) (c.try_root-else-s-eq1.ensures R)
