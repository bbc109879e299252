-- `field::lanes::times` meets its contract. Assumes nothing.
use Rattle.field.proofs.Base.{◌≡◌, ap, ◌∙◌, ℕ, ◌+◌, ◌*◌, ◌%◌, arith}
use Rattle.field.specs.Field.{power, α}
use Rattle.field.proofs.Lanewise.{F}
use Rattle.field.proofs.Folding.{times_none, times-then}
use Rattle.field.proofs.lanes.times.Goals as goal

pub loop-init : goal.loop-init
loop-init c = times_none c.args.a

pub loop-preserved : goal.loop-preserved
loop-preserved c =
    let n : ℕ = c.loop.counter in
    let e : 4 * (n + 1) ≡ 4 + 4 * n = omega arith in
    times-then (4 * n) 4 (4 * (n + 1)) _ _ _ (ap (power 7 α) e ∙ F.power-add α 4 (4 * n)) c.loop.invariant c.shift-r.ensures

pub returns : goal.returns
returns c =
    let n : ℕ = c.loop.counter in
    let k : ℕ = c.args.k.0 in
    let e : k ≡ k % 4 + 4 * n = omega arith in
    times-then (4 * n) (k % 4) k _ _ _ (ap (power 7 α) e ∙ F.power-add α (k % 4) (4 * n)) c.loop.invariant c.shift.ensures
