-- `programs::cardstarts::add_batches` meets its contract. Before turn i the report has come over i whole batches. Assumes nothing.
use Rattle.field.proofs.Base.{ap, arith}
use Rattle.programs.specs.declared.input.Input.{Input}
use Rattle.programs.proofs.Batches.{asked-yes, asked-no}
use Rattle.programs.proofs.Tabling.{adds-start, adds-readable, adds-countable, adds-all, adds-more, adds-end}
use Rattle.programs.proofs.cardstarts.add_batches.Goals as goal

pub loop-init : goal.loop-init
loop-init c =
    let x = c.new-input.ensures in
    let r = ap (λ (i : Input). i.read) x in
    let f = ap (λ (i : Input). i.failed) x in
    (ap (λ (i : Input). i.going) x, adds-start c.args.w _ _ c.requires.1 r f)

pub add_batch-input-requires : goal.add_batch-input-requires
add_batch-input-requires c =
    let t = c.loop in
    let w = c.args.w in (
      adds-readable w t.counter t.invariant.1 t.invariant.0 (omega arith),
      c.requires.0,
      adds-countable w t.counter t.invariant.1 t.invariant.0 c.requires.0 (omega arith),
    )

pub returns-then-not-going : goal.returns-then-not-going
returns-then-not-going c =
    let y = c.going in
    let x = c.add_batch-input in
    let t = c.loop in
    let w = c.args.w in
    adds-end w t.counter t.invariant.1 t.invariant.0 x.ensures c.loop-test.true (asked-no y.ensures c.if-not-going.true)

pub loop-preserved : goal.loop-preserved
loop-preserved c =
    let y = c.going in
    let x = c.add_batch-input in
    let t = c.loop in
    let w = c.args.w in
    (asked-yes y.ensures c.if-not-going.false, adds-more w t.counter t.invariant.1 t.invariant.0 x.ensures)

pub returns : goal.returns
returns c =
    let t = c.loop in adds-all c.args.w t.counter t.invariant.1 t.invariant.0 (omega arith)
