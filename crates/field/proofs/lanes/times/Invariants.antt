-- `field::lanes::times` meets its contract: so far each lane is times α to four for each turn. Assumes nothing.
use Rattle.field.proofs.Base.{◌*◌}
use Rattle.field.specs.inner.Lanes.{Times}
use Rattle.field.proofs.lanes.times.Given as goal

abbrev pub invariant-loop : goal.invariant-loop
invariant-loop l = Times (4 * l.counter) l.a l.r
