-- `code::beside::try_data` meets its contract. Assumes nothing.
use Rattle.field.proofs.Base.{rules, ◌≡◌, sym, subst, true, List, ℕ, arith, length}
use Rattle.field.specs.Question.{all_below}
use Rattle.code.specs.Word.{checks}
use Rattle.code.specs.inner.Matrix.{unknowns}
use Rattle.code.specs.inner.Correction.{places_of}
use Rattle.code.specs.inner.Beside.{Only}
use Rattle.code.proofs.Places.{number, numbers-at, held-length, first-place}
use Rattle.code.proofs.finding.BesideWays.{eliminated-one, only_one, below_one}
use Rattle.code.proofs.beside.try_data.Goals as goal

pub returns-then-p-lt5 : goal.returns-then-p-lt5
returns-then-p-lt5 c =
    let t = c.args.t in
    let p = number t.places 0 in
    let room : length t.places ≡ unknowns = search (rules, held-length) in
    let one : t.count ≡ 1 = omega (arith, c.requires, c.if-t-eq2.false) in
    let E = first-place t.places t.count p room one (numbers-at t.places 0) in
    λ R L cube. c.try_data_beside_checks.ensures R (subst (λ (xs : List ℕ). all_below checks xs ≡ true) (sym E) (below_one p c.if-p-lt5.true))
    (subst (λ (xs : List ℕ). Only xs p p) (sym E) (only_one p p))

pub returns : goal.returns
returns c =
    let a = c.args in
    let p = number a.t.places 0 in
    let room : length a.t.places ≡ unknowns = search (rules, held-length) in
    let one : a.t.count ≡ 1 = omega (arith, c.requires, c.if-t-eq2.false) in
    let E = first-place a.t.places a.t.count p room one (numbers-at a.t.places 0) in
    let h = c.if-p-lt5.false in
    λ R L cube. eliminated-one a.width R.width a.word.now (places_of a.t) a.t.sums _ p E h _ (L.one p E h) (c.try_root.ensures R)
