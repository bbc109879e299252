-- `report::quarter::quarter` meets its contract. Assumes nothing.
use Rattle.field.proofs.Base.{◌≡◌, sym, ◌∙◌, ap, arith}
use Rattle.report.specs.Quarter.{quarter_below}
use Rattle.report.proofs.Quarters.{found, passed, none}
use Rattle.report.proofs.quarter.quarter.Goals as goal

pub returns-then-is_quarter : goal.returns-then-is_quarter
returns-then-is_quarter c =
    let x = c.is_quarter in
    sym (c.loop-n.invariant ∙ found c.args.text.now c.loop-n.n (omega arith) x.result x.ensures c.if-is_quarter.true)

pub loop-n-preserved : goal.loop-n-preserved
loop-n-preserved c =
    let x = c.is_quarter in
    c.loop-n.invariant ∙ passed c.args.text.now c.loop-n.n (omega arith) x.result x.ensures c.if-is_quarter.false

pub returns : goal.returns
returns c =
    let text = c.args.text.now in
    let all : c.loop-n.n ≡ 0 = omega arith in
    sym (c.loop-n.invariant ∙ ap (quarter_below text) all ∙ none text)
