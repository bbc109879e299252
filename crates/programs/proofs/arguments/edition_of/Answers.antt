-- `programs::arguments::edition_of` meets its contract. Assumes nothing.
use Rattle.programs.proofs.Roles.{tested}
use Rattle.programs.specs.Arguments.{edition_of}
use Rattle.programs.proofs.arguments.edition_of.Goals as goal

pub returns-then-same-clause-value : goal.returns-then-same-clause-value
unfolding edition_of
returns-then-same-clause-value c = rw (← tested _ c.same.ensures, c.if-same.true)

pub returns-then-same-2-clause-value : goal.returns-then-same-2-clause-value
unfolding edition_of
returns-then-same-2-clause-value c = rw (← tested _ c.same.ensures, c.if-same.false, ← tested _ c.same-2.ensures, c.if-same-2.true)

pub returns-clause-value : goal.returns-clause-value
unfolding edition_of
returns-clause-value c = rw (← tested _ c.same.ensures, c.if-same.false, ← tested _ c.same-2.ensures, c.if-same-2.false)
