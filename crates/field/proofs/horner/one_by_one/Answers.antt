-- `field::horner::one_by_one` meets its contract: the sums over the symbols that the pass has left behind, by Horner's rule. Assumes nothing.
use Rattle.field.proofs.Base.{ap, ◌∙◌, [], ◌∷◌, ◌++◌, append_assoc, append-nil}
use Rattle.field.proofs.Evaluation.{pass-start, pass-small, pass_on, pass-end}
use Rattle.field.proofs.horner.one_by_one.Goals as goal

pub loop-c-init : goal.loop-c-init
loop-c-init c = ([], rw append-nil (cc), pass-start c.args.width)

pub loop-c-preserved : goal.loop-c-preserved
loop-c-preserved c =
    let m = c.args.width in
    let x = c.in-Some.c.now in
    let (done, split, held) = c.loop-c.invariant in (
      x ∷ done,
      split ∙ ap (λ xs. xs ++ done) c.in-Some.ensures.steps ∙ append_assoc c.next.new.self.iter.rest.now (x ∷ []) done,
      pass_on m c.loop-c.s c.step-next.result done x held (c.step-next.ensures (λ k h. pass-small m c.loop-c.s done k held h)),
    )

pub returns : goal.returns
returns c =
    let (done, split, held) = c.loop-c.invariant in
    pass-end c.args.width c.loop-c.s done c.loop-c.c-iterator.iter.rest.now c.args.symbols.now held split c.in-None.ensures.steps.0
