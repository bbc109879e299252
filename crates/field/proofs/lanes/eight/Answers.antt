-- `field::lanes::eight` meets its contract. Assumes nothing.
use Rattle.field.proofs.Base.{rules, ◌≡◌, ap, ℕ, ◌+◌, arith}
use Rattle.field.specs.Sum.{at}
use Rattle.field.specs.inner.Lanes.{lanes}
use Rattle.field.proofs.lanes.eight.Goals as goal

pub returns : goal.returns
unfolding lanes
returns c =
    let xs = c.args.xs.now in
    let i : ℕ = c.args.i in
    let first : i + 0 ≡ i = omega arith in
    record {
      held = omega (arith, ap (at xs) first);
      bytes = λ j h. search rules;
    }
