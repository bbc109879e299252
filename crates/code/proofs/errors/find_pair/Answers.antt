-- `code::errors::find_pair` meets its contract. Assumes nothing.
use Rattle.field.proofs.Base.{rules, le_refl}
use Rattle.code.specs.Word.{at}
use Rattle.code.specs.inner.Locate.{NoRatio, NoPairs}
use Rattle.code.proofs.restoring.Trying.{searched-else, searched-last}
use Rattle.code.proofs.finding.PlainWays.{plain-none}
use Rattle.code.proofs.errors.find_pair.Goals as goal

pub returns : goal.returns
returns c =
    λ R e.
    (let a = c.args in
    let s = at a.t.sums in
    let S = searched-else (NoPairs a.width s) _ _ _ (le_refl 2) (c.correct_checks.ensures _ R e) c.or_else.ensures (λ next. search rules) in
    let T = searched-else (NoRatio a.width s 2 0) _ _ _ (le_refl 2) S c.or_else-2.ensures (λ next. search rules) in
    let U = searched-else (NoRatio a.width s 2 2) _ _ _ (le_refl 2) T c.or_else-3.ensures (λ next. search rules) in
    searched-last (le_refl 2) (λ far. plain-none R e 2 (le_refl 2) far.0.0.0 far.0.1 (λ two. (far.1, far.0.0.1))) U)
