-- `code::word::word_syndromes` meets its contract. Assumes nothing.
use Rattle.field.proofs.Base.{◌≡◌, ◌∙◌, ℕ, ◌<◌, lit<}
use Rattle.field.specs.Polynomial.{add}
use Rattle.field.proofs.Bytes.{xor-add}
use Rattle.field.proofs.Evaluation.{five-of, sums-own}
use Rattle.code.specs.Word.{checks, at, syndrome}
use Rattle.code.proofs.calls.Parities.{syndromes-of}
use Rattle.code.proofs.word.word_syndromes.Goals as goal

pub returns : goal.returns
returns c =
    λ w size b.
    (let a = c.args in
    let m = a.width in
    let word = a.word.now in
    let s : (k : ℕ) → k < checks → add (at word k) (at c.parities-c.result k) ≡ syndrome m (at word) k =
    syndromes-of m word c.parities-c.result size b (λ d. c.parities-c.ensures ∙ sums-own m _ w d) in
    five-of (syndrome m (at word)) _ _ _ _ _
    (xor-add _ _ ∙ s 0 (lit< tt))
    (xor-add _ _ ∙ s 1 (lit< tt))
    (xor-add _ _ ∙ s 2 (lit< tt))
    (xor-add _ _ ∙ s 3 (lit< tt))
    (xor-add _ _ ∙ s 4 (lit< tt)))
