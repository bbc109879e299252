-- `code::candidates::eliminated_rows` meets its contract. Assumes nothing.
use Rattle.field.proofs.Base.{rules, ◌≡◌, arith, length}
use Rattle.code.specs.inner.Matrix.{unknowns}
use Rattle.code.specs.inner.Correction.{places_of}
use Rattle.code.proofs.Places.{number, numbers-at, held-length, first-place, first-places}
use Rattle.code.proofs.finding.BesideWays.{eliminated-single, eliminated-double}
use Rattle.code.proofs.candidates.eliminated_rows.Goals as goal

pub returns-then-t-eq1 : goal.returns-then-t-eq1
returns-then-t-eq1 c =
    let a = c.args in
    let p = number a.t.places 0 in
    let room : length a.t.places ≡ unknowns = search (rules, held-length) in
    let E = first-place a.t.places a.t.count p room c.if-t-eq1.true (numbers-at a.t.places 0) in
    λ w R. eliminated-single a.width (places_of a.t) a.t.sums _ p E (c.without_one.ensures w R)

pub returns : goal.returns
returns c =
    let a = c.args in
    let p = number a.t.places 0 in
    let q = number a.t.places 1 in
    let two : a.t.count ≡ 2 = omega (arith, c.requires, c.if-t-eq1.false) in
    let room : length a.t.places ≡ unknowns = search (rules, held-length) in
    let E = first-places a.t.places a.t.count p q room two (numbers-at a.t.places 0) (numbers-at a.t.places 1) in
    λ w R. eliminated-double a.width (places_of a.t) a.t.sums _ p q E (c.without_two.ensures w R)
