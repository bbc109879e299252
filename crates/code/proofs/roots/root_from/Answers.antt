-- `code::roots::root_from` meets its contract. Assumes nothing.
use Rattle.field.proofs.Base.{sym, ◌∙◌, arith}
use Rattle.field.proofs.Bytes.{xor-add}
use Rattle.code.proofs.finding.Scanning.{scanning-on, scanning-found, scanning-end}
use Rattle.code.proofs.roots.root_from.Goals as goal

pub returns-then-d-e : goal.returns-then-d-e
returns-then-d-e c = (
  (omega arith, omega arith),
  λ a b w C. scanning-found c.args.width w c.args.n (c.loop-i.invariant a b w C) (sym (xor-add c.loop-i.d c.loop-i.e) ∙ c.if-d-e.true),
)

pub loop-i-preserved : goal.loop-i-preserved
loop-i-preserved c a b w C =
    scanning-on c.args.width w (c.loop-i.invariant a b w C) (λ e. c.if-d-e.false (xor-add c.loop-i.d c.loop-i.e ∙ e))
    c.shift-d.ensures c.shift-e.ensures

pub returns : goal.returns
returns c = (tt, λ a b w C. scanning-end c.args.width w c.args.n c.loop-i-test.false (c.loop-i.invariant a b w C))
