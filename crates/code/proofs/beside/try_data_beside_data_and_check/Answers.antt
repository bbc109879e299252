-- `code::beside::try_data_beside_data_and_check` meets its contract. Assumes nothing.
use Rattle.field.proofs.Base.{◌+◌, arith}
use Rattle.code.specs.inner.Correction.{places_of}
use Rattle.code.proofs.restoring.Trying.{sums_lt}
use Rattle.code.proofs.finding.BesideWays.{eliminated-data}
use Rattle.code.proofs.beside.try_data_beside_data_and_check.Goals as goal

pub returns : goal.returns
returns c =
    let a = c.args in
    let s = c.rows_beside-s.result in
    λ R cs A ha bs O cube. eliminated-data a.width R.width a.word.now (places_of a.t) a.t.sums _ a.a.0 a.c.0 ha s
    c.rows_beside-s.ensures cs A bs O cube
    _ _ (c.eliminated-low.ensures R.width ha (sums_lt R s.from (omega (arith, c.rows_beside-s.ensures.fits))))
    (c.eliminated-high.ensures R.width ha (sums_lt R (s.from + 1) (omega (arith, c.rows_beside-s.ensures.fits)))) (c.try_root.ensures R)
