-- `programs::cardconvert::ask_card` meets its contract. Before turn i the questions have come over i whole batches. Assumes nothing.
use Rattle.field.proofs.Base.{ap, arith}
use Rattle.programs.specs.declared.input.Input.{Input}
use Rattle.programs.proofs.Batches.{asked-yes}
use Rattle.programs.proofs.Converting.{asks-start, asks-readable, asks-slots, asks-all, asks-more, asks-end}
use Rattle.programs.proofs.cardconvert.ask_card.Goals as goal

pub loop-init : goal.loop-init
loop-init c =
    let x = c.new-input.ensures in
    let r = ap (λ (i : Input). i.read) x in
    let f = ap (λ (i : Input). i.failed) x in
    (ap (λ (i : Input). i.going) x, asks-start _ _ _ c.nothing_found-s.ensures r f)

pub ask_batch-inquiry-requires : goal.ask_batch-inquiry-requires
ask_batch-inquiry-requires c =
    let t = c.loop in
    let k = c.args.k in
    (asks-readable k t.counter t.invariant.1 t.invariant.0 c.requires (omega arith), c.requires, asks-slots k t.counter t.invariant.1 t.invariant.0 c.requires (omega arith))

pub returns-then-not-going : goal.returns-then-not-going
returns-then-not-going c =
    let x = c.ask_batch-inquiry in
    let t = c.loop in
    asks-end c.args.k t.counter t.invariant.1 t.invariant.0 c.requires x.ensures c.loop-test.true

pub loop-preserved : goal.loop-preserved
loop-preserved c =
    let x = c.ask_batch-inquiry in
    let t = c.loop in
    let y = c.going in (
      asked-yes y.ensures c.if-not-going.false,
      asks-more c.args.k t.counter t.invariant.1 t.invariant.0 c.requires x.ensures,
    )

pub returns : goal.returns
returns c =
    let t = c.loop in
    asks-all c.args.k t.counter t.invariant.1 t.invariant.0 c.requires (omega arith)
