-- `card_csv::fields::commas` meets its contract. Assumes nothing.
use Rattle.field.proofs.Base.{arith}
use Rattle.card_csv.specs.Text.{separator}
use Rattle.report.proofs.Comparing.{occurs-yes, occurs-no, occurs-end}
use Rattle.card_csv.proofs.fields.commas.Goals.{then-b-eq44, else-b-eq44}
use Rattle.card_csv.proofs.fields.commas.Goals as goal

pub loop-b-preserved : goal.loop-b-preserved
loop-b-preserved c =
    let l = c.loop-b in
    let text = c.args.text.now in
    let n = c.if-b-eq44.n in
    elim c.if-b-eq44.branch [
      | then-b-eq44 w ↦ (omega (arith, w.n-is, l.invariant.0), occurs-yes separator text l.b-index l.n l.invariant.1 c.loop-b-test.true n w.if-b-eq44.true w.n-is)
      | else-b-eq44 w ↦ (omega (arith, w.n-is, l.invariant.0), occurs-no separator text l.b-index l.n l.invariant.1 c.loop-b-test.true n w.if-b-eq44.false w.n-is)
    ]

pub returns : goal.returns
returns c =
    let l = c.loop-b in
    occurs-end separator c.args.text.now l.b-index l.n l.invariant.1 (omega (arith, c.loop-b-test.false))
