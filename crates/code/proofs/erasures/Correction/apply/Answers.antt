-- `code::erasures::Correction::apply` meets its contract. Assumes nothing.
use Rattle.field.proofs.Base.{rules, List, ℕ, ◌≡◌, arith, ◌-◌, ◌≤◌, length}
use Rattle.code.specs.declared.word.Place.{Place}
use Rattle.code.specs.inner.Place.{numbers}
use Rattle.code.specs.inner.Matrix.{unknowns}
use Rattle.code.proofs.Places.{numbers-at, numbers-length, held-length}
use Rattle.code.proofs.restoring.Writing.{written_start, written_below, written-fits, written_on}
use Rattle.code.proofs.erasures.Correction.apply.Goals as goal

few-places : (places : List Place) (count : ℕ) → length places ≡ unknowns → count ≤ unknowns → count ≤ length (numbers places)
few-places places count five few = omega (arith, numbers-length places)

few-values : (values : List ℕ) (count : ℕ) → length values ≡ unknowns → count ≤ unknowns → count ≤ length values
few-values values count five few = omega arith

pub loop-i-init : goal.loop-i-init
loop-i-init c =
    let five : length c.args.self.places ≡ unknowns = search (rules, held-length) in
    written_start _ _ _ _ _ (few-places c.args.self.places c.args.self.count five c.requires.0)

-- the place that is written is in the word
pub bounds-word-p : goal.bounds-word-p
bounds-word-p c =
    let x = c.args.self in
    let five : length x.places ≡ unknowns = search (rules, held-length) in
    let five' : length x.values ≡ unknowns = search rules in
    written_below (few-places x.places x.count five c.requires.0) (few-values x.values x.count five' c.requires.0) c.requires.2 c.requires.3
    c.loop-i.invariant c.loop-i-test.true _ (numbers-at x.places (c.loop-i.i - 1))

pub bounds-word-p-in-loop-i : goal.bounds-word-p-in-loop-i
bounds-word-p-in-loop-i c =
    let x = c.args.self in
    let five : length x.places ≡ unknowns = search (rules, held-length) in
    let five' : length x.values ≡ unknowns = search rules in
    written_below (few-places x.places x.count five c.requires.0) (few-values x.values x.count five' c.requires.0) c.requires.2 c.requires.3
    c.loop-i.invariant c.loop-i-test.true _ (numbers-at x.places (c.loop-i.i - 1))

pub overflow_add-k : goal.overflow_add-k
overflow_add-k c =
    let x = c.args.self in
    let five : length x.places ≡ unknowns = search (rules, held-length) in
    let five' : length x.values ≡ unknowns = search rules in
    let fits = written-fits (few-places x.places x.count five c.requires.0) (few-values x.values x.count five' c.requires.0) c.requires.2
    c.requires.3 c.loop-i.invariant c.loop-i-test.true _ (numbers-at x.places (c.loop-i.i - 1)) _ c.change_at-k.ensures in
    omega (arith, fits, c.requires)

pub loop-i-preserved : goal.loop-i-preserved
loop-i-preserved c =
    let x = c.args.self in
    let five : length x.places ≡ unknowns = search (rules, held-length) in
    let five' : length x.values ≡ unknowns = search rules in
    written_on (few-places x.places x.count five c.requires.0) (few-values x.values x.count five' c.requires.0) c.requires.2 c.requires.3
    c.loop-i.invariant c.loop-i-test.true _ (numbers-at x.places (c.loop-i.i - 1)) _ c.change_at-k.ensures
