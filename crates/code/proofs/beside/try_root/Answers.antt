-- `code::beside::try_root` meets its contract. Assumes nothing.
use Rattle.field.proofs.Base.{ap, arith}
use Rattle.code.specs.inner.Correction.{places_of}
use Rattle.code.proofs.finding.BesideWays.{root-out, root-place}
use Rattle.code.proofs.beside.try_root.Goals as goal

pub returns-in-Some : goal.returns-in-Some
returns-in-Some c =
    let i = c.items_of-n in
    let a = c.args in
    λ R. root-place a.width R.width a.word.now (places_of a.t) a.square a.linear a.constant i.result
    (omega (arith, R.lent.size, i.ensures.0)) c.in-Some.root c.in-Some.ensures.1 _ c.place_of.result.0
    (ap (λ q. q.0) c.place_of.ensures) (c.try_place.ensures R)

pub returns-in-None : goal.returns-in-None
returns-in-None c =
    let i = c.items_of-n in
    let a = c.args in
    λ R. root-out a.width R.width a.word.now (places_of a.t) a.square a.linear a.constant i.result
    (omega (arith, R.lent.size, i.ensures.0)) c.in-None.ensures.1
