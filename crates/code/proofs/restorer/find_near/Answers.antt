-- `code::restorer::find_near` meets its contract. Assumes nothing.
use Rattle.field.proofs.Base.{◌≡◌, sym, ap, subst, List, [], ℕ, arith, take}
use Rattle.code.specs.inner.Place.{numbers}
use Rattle.code.specs.inner.Correction.{places_of, Searched, NoneWithin}
use Rattle.code.proofs.distance.DistanceLaw.{distance-of}
use Rattle.code.proofs.finding.BesideWays.{cubes-beside, near-zero, near_same}
use Rattle.code.proofs.restorer.find_near.Goals as goal

pub returns-then-reach-eq0 : goal.returns-then-reach-eq0
returns-then-reach-eq0 c =
    let a = c.args in
    λ R. near-zero a.width a.word.now (places_of a.t) a.reach _ R.lent c.if-reach-eq0.true (c.solve.ensures _ R)

pub returns-then-t-gt0 : goal.returns-then-t-gt0
returns-then-t-gt0 c =
    let a = c.args in
    let one : a.reach ≡ 1 = omega (arith, c.requires, c.if-t-gt0.true, c.if-reach-eq0.false) in
    λ R. near_same a.width a.word.now (places_of a.t) 1 a.reach _ one
    (c.find_beside.ensures R (λ e. cubes-beside a.width R.width (distance-of a.width R.width) (omega (arith, c.requires.1, one))))

pub returns-then-reach-eq1 : goal.returns-then-reach-eq1
returns-then-reach-eq1 c =
    let a = c.args in
    let z : a.t.count ≡ 0 = omega (arith, c.if-t-gt0.false) in
    let e : places_of a.t ≡ [] = ap (λ (n : ℕ). take n (numbers a.t.places)) z in
    λ R. near_same a.width a.word.now (places_of a.t) 1 a.reach _ c.if-reach-eq1.true
    (subst (λ (xs : List ℕ). Searched a.width a.word.now xs 1 (NoneWithin a.width a.word.now xs 1) c.find_single.result) (sym e)
    (c.find_single.ensures R e))

pub returns : goal.returns
returns c =
    let a = c.args in
    let z : a.t.count ≡ 0 = omega (arith, c.if-t-gt0.false) in
    let e : places_of a.t ≡ [] = ap (λ (n : ℕ). take n (numbers a.t.places)) z in
    let two : a.reach ≡ 2 = omega (arith, c.requires.1, c.if-reach-eq1.false, c.if-reach-eq0.false) in
    λ R. near_same a.width a.word.now (places_of a.t) 2 a.reach _ two
    (subst (λ (xs : List ℕ). Searched a.width a.word.now xs 2 (NoneWithin a.width a.word.now xs 2) c.find_pair.result) (sym e)
    (c.find_pair.ensures R e))
