-- `code::beside::try_place` meets its contract. Assumes nothing.
use Rattle.field.proofs.Base.{refl, sym, ◌∙◌, le_refl, arith}
use Rattle.code.specs.inner.Correction.{NoneAt}
use Rattle.code.proofs.restoring.Trying.{searched-outside, searched-listed, searched-last, searched-place}
use Rattle.code.proofs.beside.try_place.Goals.{then-word-i-via-then-word-i, then-word-i-via-else-word-i+then-contains}
use Rattle.code.proofs.beside.try_place.Goals as goal

pub returns-then-word-i : goal.returns-then-word-i
returns-then-word-i c =
    let a = c.args in
    λ R. elim c.then-word-i.branch [
      | then-word-i-via-then-word-i w ↦ searched-outside a.p.0 (omega (arith, R.lent.size, w.if-word-i.true))
      | then-word-i-via-else-word-i+then-contains w ↦ searched-listed a.p.0 w.contains.result w.contains.ensures w.if-contains.true
    ]

pub returns : goal.returns
returns c =
    let u = c.extended in
    let a = c.args in
    let m = a.width in
    let w = a.word.now in
    λ R. searched-last (le_refl 1) (λ none l. none) (searched-place m w a.t u.result 0 (NoneAt m w) _ a.p.0
    (u.ensures.1 w R (omega (arith, R.lent.size, c.if-word-i.false)) (sym c.contains.ensures ∙ c.if-contains.false) refl)
    (c.solve.ensures w))
