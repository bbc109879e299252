-- `programs::arguments::place_among` meets its contract. Assumes nothing.
use Rattle.field.proofs.Base.{rules, ◌∙◌}
use Rattle.programs.proofs.Roles.{place_found, place-counted, place-passed, place_none}
use Rattle.programs.proofs.arguments.place_among.Goals.{then-eq+else-left-eq1, else-eq}
use Rattle.programs.proofs.arguments.place_among.Goals as goal

pub returns-then-left-eq1 : goal.returns-then-left-eq1
returns-then-left-eq1 c =
    let a = c.args in
    place_found a.roles.now a.role a.n c.loop-i.left c.loop-i.i c.loop-i.invariant c.loop-i-test.true c.if-eq.ensures c.if-left-eq1.true

pub loop-i-preserved : goal.loop-i-preserved
loop-i-preserved c =
    let a = c.args in
    let below = c.loop-i-test.true in
    let next = c.if-eq.left in
    let counted = place-counted a.roles.now a.role a.n c.loop-i.left c.loop-i.i c.loop-i.invariant below in
    let passed = place-passed a.roles.now a.role a.n c.loop-i.left c.loop-i.i c.loop-i.invariant below in
    elim c.if-eq.branch [
      | then-eq+else-left-eq1 w ↦ counted w.if-eq.ensures w.if-left-eq1.false next (w.left-is ∙ w.saturating_sub-left.ensures)
      | else-eq w ↦ passed w.if-eq.ensures next w.left-is
    ]

pub returns : goal.returns
returns c = search (rules, place_none)
