-- `code::erasures::Trial::extended` meets its contract. Assumes nothing.
use Rattle.field.proofs.Base.{rules, ◌≡◌, refl, sym, ap, ◌∙◌, ◌∷◌, List, ℕ, ◌+◌, arith, length, take, length-take-le}
use Rattle.code.specs.inner.Place.{numbers}
use Rattle.code.specs.inner.Matrix.{unknowns}
use Rattle.code.proofs.Places.{numbers-take, held-length}
use Rattle.code.proofs.restoring.Trying.{extended-symbol, extended-ready}
use Rattle.code.proofs.erasures.Trial.extended.Goals as goal

pub returns : goal.returns
returns c =
    let a = c.args in
    let t = a.self in
    let room : length t.places ≡ unknowns = search (rules, held-length) in
    let size = length-take-le t.count t.places (omega (arith, room, c.requires)) in
    let e = ap (λ (n : ℕ). take (n + 1) (numbers c.prepended-places.result)) (sym size)
    ∙ c.prepended-places.ensures ∙ ap (λ (xs : List ℕ). a.p.0 ∷ xs) (numbers-take t.count t.places) in (
      refl,
      λ w R h o ex. (
        e,
        extended-ready a.width w t _ a.p.0 a.x R h o ex e (c.masked-sums.ensures R.width (extended-symbol a.width w t t a.p.0 a.x R h o ex)),
      ),
    )
