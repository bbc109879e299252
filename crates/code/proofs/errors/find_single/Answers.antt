-- `code::errors::find_single` meets its contract. Assumes nothing.
use Rattle.field.proofs.Base.{rules, le_refl, arith}
use Rattle.code.specs.Word.{at}
use Rattle.code.specs.inner.Locate.{NoRatio}
use Rattle.code.proofs.restoring.Trying.{searched-else, searched-last}
use Rattle.code.proofs.finding.PlainWays.{plain-none}
use Rattle.code.proofs.errors.find_single.Goals as goal

pub returns : goal.returns
returns c =
    λ R e.
    (let a = c.args in
    let S = searched-else (NoRatio a.width (at a.t.sums) 1 0) _ _ _ (le_refl 1) (c.correct_checks.ensures _ R e) c.or_else.ensures (λ next. search rules) in
    searched-last (le_refl 1) (λ far. plain-none R e 1 (omega arith) far.0 far.1 (λ two. absurd (omega arith))) S)
