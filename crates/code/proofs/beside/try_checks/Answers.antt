-- `code::beside::try_checks` meets its contract. Assumes nothing.
use Rattle.field.proofs.Base.{le_refl}
use Rattle.code.specs.inner.Correction.{places_of}
use Rattle.code.proofs.Loops.{sought-on}
use Rattle.code.proofs.restoring.Trying.{searched-none, searched-nothing, searched-found}
use Rattle.code.proofs.finding.CheckPlaces.{range-tried}
use Rattle.code.proofs.beside.try_checks.Goals as goal

pub returns-then-exist : goal.returns-then-exist
returns-then-exist c =
    let y = c.exist in
    let x = c.try_place-c in
    λ R out. searched-found (le_refl 1) y.result y.ensures c.if-exist.true (x.ensures R)

pub loop-p-preserved : goal.loop-p-preserved
loop-p-preserved c =
    λ R.
    (let y = c.exist in
    let x = c.try_place-c in
    sought-on _ _ c.loop-p.p (c.loop-p.invariant R)
    ((x.ensures R).none (searched-nothing x.result y.result y.ensures c.if-exist.false)))

pub returns : goal.returns
returns c =
    let a = c.args in
    λ R out. searched-none
    (range-tried a.width a.word.now (places_of a.t) a.f.low.0 a.f.high.0 c.loop-p.p out c.loop-p-test.false (c.loop-p.invariant R))
