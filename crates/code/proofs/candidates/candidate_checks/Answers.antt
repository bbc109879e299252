-- `code::candidates::candidate_checks` meets its contract. Assumes nothing.
use Rattle.field.proofs.Base.{rules, ◌≡◌, refl, sym, subst, List, [], ◌∷◌, ℕ, length}
use Rattle.code.specs.Word.{at}
use Rattle.code.specs.inner.Matrix.{unknowns}
use Rattle.code.specs.inner.Correction.{places_of}
use Rattle.code.specs.inner.Beside.{Tell}
use Rattle.code.proofs.Places.{number, numbers-at, held-length, first-place, first-places}
use Rattle.code.proofs.finding.CheckPlaces.{rows-check, rows-one, rows-two}
use Rattle.code.proofs.candidates.candidate_checks.Goals as goal

pub returns-then-p-ge5 : goal.returns-then-p-ge5
returns-then-p-ge5 c = λ m w R L.
    (let t = c.args.t in
    let p = number t.places 0 in
    let h = c.if-p-ge5.true in
    let room : length t.places ≡ unknowns = search (rules, held-length) in
    let E : places_of t ≡ p ∷ [] = first-place t.places t.count p room c.if-t-eq1.true (numbers-at t.places 0) in
    c.range_of.ensures m w (places_of t) (rows-one R p E h _ (L.one p E h)))

pub returns-then-t-eq1 : goal.returns-then-t-eq1
returns-then-t-eq1 c = λ m w R L.
    (let t = c.args.t in
    let p = number t.places 0 in
    let h = c.if-p-ge5.false in
    let room : length t.places ≡ unknowns = search (rules, held-length) in
    let E : places_of t ≡ p ∷ [] = first-place t.places t.count p room c.if-t-eq1.true (numbers-at t.places 0) in
    c.range_of-then-t-eq1.ensures m w (places_of t)
    (subst (λ (u : List ℕ). Tell m w (places_of t) 1 (at u)) (sym (L.check p E h)) (rows-check R p E h)))

pub returns-then-q-ge5 : goal.returns-then-q-ge5
returns-then-q-ge5 c = λ m w R L.
    (let t = c.args.t in
    let p = number t.places 0 in
    let q = number t.places 1 in
    let h = c.if-p-ge5-2.true in
    let l = c.if-q-ge5.true in
    let room : length t.places ≡ unknowns = search (rules, held-length) in
    let E : places_of t ≡ p ∷ q ∷ [] = first-places t.places t.count p q room c.if-t-eq2.true (numbers-at t.places 0) (numbers-at t.places 1) in
    c.range_of-then-q-ge5.ensures m w (places_of t) (rows-two R p _ refl q E h l _ (L.two p q E h l)))
