-- `code::erasures::masked_sums` meets its contract: zeros have taken the place of the symbols at the first erasures. Assumes nothing.
use Rattle.field.proofs.Base.{refl, length}
use Rattle.field.proofs.Below.{all_below-means}
use Rattle.code.proofs.restoring.Repairing.{masking-on, masking-size, masking-end, masked-sums}
use Rattle.code.proofs.erasures.masked_sums.Goals as goal

pub loop-p-preserved : goal.loop-p-preserved
loop-p-preserved c =
    let a = c.args in
    let l = c.loop-p in
    masking-on l.invariant c.loop-p-test.true _ refl
    (all_below-means (length a.word.now) a.erasures.now c.requires.below l.p-index c.loop-p-test.true)

pub returns : goal.returns
returns c =
    λ v W.
    (let a = c.args in
    let M = c.loop-p.invariant in
    masked-sums a.width v a.word.now a.erasures.now _ W (masking-size M) (masking-end M c.loop-p-test.false) _ (c.word_syndromes.ensures v))
