-- `programs::arguments::asked_of` meets its contract. Assumes nothing.
use Rattle.programs.specs.Arguments.{asked_of}
use Rattle.programs.proofs.arguments.asked_of.Goals as goal

pub returns-then-is_some : goal.returns-then-is_some
unfolding asked_of
returns-then-is_some c = rw (← c.place_of.ensures, ← c.is_some.ensures, c.if-is_some.true)

pub returns-then-is_some-2 : goal.returns-then-is_some-2
unfolding asked_of
returns-then-is_some-2 c = rw (← c.place_of.ensures, ← c.is_some.ensures, c.if-is_some.false, ← c.place_of-2.ensures, ← c.is_some-2.ensures, c.if-is_some-2.true)

pub returns-in-Some : goal.returns-in-Some
unfolding asked_of
returns-in-Some c =
    rw (← c.place_of.ensures, ← c.is_some.ensures, c.if-is_some.false, ← c.place_of-2.ensures, ← c.is_some-2.ensures, c.if-is_some-2.false, ← c.in-Some.ensures)

pub returns-then-too_few : goal.returns-then-too_few
unfolding asked_of
returns-then-too_few c =
    rw (← c.place_of.ensures, ← c.is_some.ensures, c.if-is_some.false, ← c.place_of-2.ensures, ← c.is_some-2.ensures, c.if-is_some-2.false, ← c.wrong_place.ensures, c.in_default.is, ← c.too_few.ensures, c.if-too_few.true)

pub returns : goal.returns
unfolding asked_of
returns c =
    rw (← c.place_of.ensures, ← c.is_some.ensures, c.if-is_some.false, ← c.place_of-2.ensures, ← c.is_some-2.ensures, c.if-is_some-2.false, ← c.wrong_place.ensures, c.in_default.is, ← c.too_few.ensures, c.if-too_few.false)
