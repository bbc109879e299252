-- `programs::arguments::own_role` meets its contract. Assumes nothing.
use Rattle.field.proofs.Base.{arith}
use Rattle.programs.proofs.Roles.{tested, plain-short, plain-hyphen, plain_other}
use Rattle.programs.specs.Arguments.{own_role}
use Rattle.programs.proofs.arguments.own_role.Goals as goal

pub returns-then-same : goal.returns-then-same
unfolding own_role
returns-then-same c = rw (← tested _ c.same.ensures, c.if-same.true)

pub returns-then-same-2 : goal.returns-then-same-2
unfolding own_role
returns-then-same-2 c = rw (← tested _ c.same.ensures, c.if-same.false, ← tested _ c.same-2.ensures, c.if-same-2.true)

pub returns-then-same-3 : goal.returns-then-same-3
unfolding own_role
returns-then-same-3 c = rw (← tested _ c.same.ensures, c.if-same.false, ← tested _ c.same-2.ensures, c.if-same-2.false, ← tested _ c.same-3.ensures, c.if-same-3.true)

pub returns-then-same-4 : goal.returns-then-same-4
unfolding own_role
returns-then-same-4 c = rw (← tested _ c.same.ensures, c.if-same.false, ← tested _ c.same-2.ensures, c.if-same-2.false, ← tested _ c.same-3.ensures, c.if-same-3.false, ← tested _ c.same-4.ensures, c.if-same-4.true)

pub returns-in-45 : goal.returns-in-45
unfolding own_role
returns-in-45 c = rw (← tested _ c.same.ensures, c.if-same.false, ← tested _ c.same-2.ensures, c.if-same-2.false, ← tested _ c.same-3.ensures, c.if-same-3.false, ← tested _ c.same-4.ensures, c.if-same-4.false) (plain-hyphen c.args.text.now (omega arith) (omega arith))

pub returns-in_default : goal.returns-in_default
unfolding own_role
returns-in_default c = rw (← tested _ c.same.ensures, c.if-same.false, ← tested _ c.same-2.ensures, c.if-same-2.false, ← tested _ c.same-3.ensures, c.if-same-3.false, ← tested _ c.same-4.ensures, c.if-same-4.false) (plain-short c.args.text.now (omega arith))

pub returns-in_default-2 : goal.returns-in_default-2
unfolding own_role
returns-in_default-2 c = rw (← tested _ c.same.ensures, c.if-same.false, ← tested _ c.same-2.ensures, c.if-same-2.false, ← tested _ c.same-3.ensures, c.if-same-3.false, ← tested _ c.same-4.ensures, c.if-same-4.false) (plain_other c.args.text.now (omega arith) (λ e. omega (arith, e)))
