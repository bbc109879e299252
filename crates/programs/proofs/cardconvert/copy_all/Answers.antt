-- `programs::cardconvert::copy_all` meets its contract. Assumes nothing.
use Rattle.field.proofs.Base.{ap, arith}
use Rattle.programs.specs.declared.input.Input.{Input}
use Rattle.programs.specs.declared.output.Output.{Output}
use Rattle.programs.proofs.Converting.{copied-fine, copied_more, copied_all}
use Rattle.programs.proofs.cardconvert.copy_all.Goals as goal

pub loop-left-init : goal.loop-left-init
loop-left-init c =
    let x = c.new.ensures in
    let y = c.new-2.ensures in (
      omega arith,
      record {
        going = ap (λ (i : Input). i.going) x;
        well = ap (λ (i : Input). i.failed) x;
        ok = ap (λ (o : Output). o.ok) y;
        read = omega (arith, ap (λ (i : Input). i.read) x);
        written = omega (arith, ap (λ (o : Output). o.written) y);
      },
    )

pub copy_batch-requires : goal.copy_batch-requires
copy_batch-requires c =
    let t = c.loop-left in
    (copied-fine t.invariant.1 c.requires.0 c.requires.1 c.requires.2, c.requires.0, c.requires.1, c.next_batch-want.ensures.0)

pub loop-left-smaller : goal.loop-left-smaller
loop-left-smaller c = omega (arith, c.next_batch-want.ensures.2 c.loop-left-test.true)

pub loop-left-preserved : goal.loop-left-preserved
loop-left-preserved c =
    let t = c.loop-left in
    let w = c.next_batch-want in
    (omega arith, copied_more t.invariant.1 c.requires.0 c.requires.1 w.result c.in_ok-c.ensures w.ensures.1)

pub returns : goal.returns
returns c =
    let t = c.loop-left in
    copied_all t.invariant.1 c.requires.0 c.requires.1 (omega arith)
