-- `programs::cardcompare::answer` meets its contract. Assumes nothing.
use Rattle.field.proofs.Base.{ap, ◌∙◌}
use Rattle.programs.specs.declared.output.Output.{Output}
use Rattle.programs.specs.declared.status.Status.TheVariants.{NotDone}
use Rattle.programs.specs.declared.cardcompare.Refusal.TheVariants.{Nobody}
use Rattle.programs.proofs.Comparing.{both-fine, found-slot, compares-unread, compares-cards, accepted-slots, says-nothing, status-compared}
use Rattle.programs.proofs.Comparing.{writes-refused, status-refused, says-refusal}
use Rattle.programs.proofs.Batches.{asked-no, asked-yes}
use Rattle.programs.proofs.cardcompare.answer.Goals as goal

pub returns-then-not-both_read : goal.returns-then-not-both_read
returns-then-not-both_read c =
    compares-unread c.args.n c.args.m c.requires.0 c.requires.1 (asked-no c.both_read.ensures c.if-not-both_read.true) c.new.result
    (ap (λ (p : Output). p.written) c.new.ensures)

pub write_comparison-output-requires : goal.write_comparison-output-requires
write_comparison-output-requires c =
    let fine = both-fine c.args.s.input c.args.t.input (asked-yes c.both_read.ensures c.if-not-both_read.false) in
    accepted-slots c.slot-a.result.now c.slot-b.result.now c.in-Ok.x c.in-Ok.ensures
    (found-slot c.args.n c.requires.0 c.slot-a.result.now c.slot-a.ensures fine.0)
    (found-slot c.args.m c.requires.1 c.slot-b.result.now c.slot-b.ensures fine.1)

pub returns-in-Ok : goal.returns-in-Ok
returns-in-Ok c =
    let p = asked-yes c.both_read.ensures c.if-not-both_read.false in
    let fine = both-fine c.args.s.input c.args.t.input p in
    let a = c.slot-a.result.now in
    let b = c.slot-b.result.now in
    compares-cards c.args.n c.args.m c.requires.0 c.requires.1 p a b c.slot-a.ensures c.slot-b.ensures
    c.write_comparison-output.result c.write_comparison-output.ensures
    c.status_of.result (c.status_of.ensures ∙ status-compared a b c.in-Ok.x c.in-Ok.ensures c.args.s.input c.args.t.input c.write_comparison-output.result p)
    Nobody (says-nothing a b c.in-Ok.x c.in-Ok.ensures
    (found-slot c.args.n c.requires.0 a c.slot-a.ensures fine.0) (found-slot c.args.m c.requires.1 b c.slot-b.ensures fine.1))

pub returns-in-Err : goal.returns-in-Err
returns-in-Err c =
    let a = c.slot-a.result.now in
    let b = c.slot-b.result.now in
    let o = c.new-in-Err in
    compares-cards c.args.n c.args.m c.requires.0 c.requires.1 (asked-yes c.both_read.ensures c.if-not-both_read.false) a b
    c.slot-a.ensures c.slot-b.ensures
    o.result (writes-refused a b c.in-Err.q c.in-Err.ensures o.result (ap (λ (x : Output). x.written) o.ensures))
    NotDone (status-refused a b c.in-Err.q c.in-Err.ensures c.args.s.input c.args.t.input o.result)
    c.refusal_of.result (says-refusal a b c.in-Err.q c.in-Err.ensures c.refusal_of.result c.refusal_of.ensures)
