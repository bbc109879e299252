-- `code::word::write_codeword` meets its contract. Assumes nothing.
use Rattle.field.proofs.Base.{rules, ◌≡◌, sym, ap, ◌∙◌, List, ◌++◌, ℕ, length}
use Rattle.field.proofs.Evaluation.{sums-own}
use Rattle.code.specs.Word.{five, weighted, at}
use Rattle.code.proofs.Loops.{two-parts}
use Rattle.code.proofs.word.write_codeword.Goals as goal

pub returns : goal.returns
returns c =
    λ w size b.
    (let p = c.parities-c in
    let a = c.args in
    let l : 5 ≡ length p.result = search rules in
    two-parts 5 a.word.now p.result a.message.now _ _ c.copy.ensures c.copy-2.ensures (sym l)
    ∙ ap (λ (ps : List ℕ). ps ++ a.message.now) (p.ensures ∙ sums-own a.width a.message.now w b ∙ ap (λ (n : ℕ). five (weighted a.width n (at a.message.now))) size))
