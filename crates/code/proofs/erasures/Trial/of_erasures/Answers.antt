-- `code::erasures::Trial::of_erasures` meets its contract. Assumes nothing.
use Rattle.field.proofs.Base.{rules, ◌≡◌, refl, sym, ap, ◌∙◌, subst, List, ℕ, length}
use Rattle.code.specs.Erasure.{syndromes_without}
use Rattle.code.specs.inner.Correction.{Lent}
use Rattle.code.proofs.restoring.Repairing.{plain-sums}
use Rattle.code.proofs.erasures.Trial.of_erasures.Goals as goal

pub returns-then-is_empty : goal.returns-then-is_empty
returns-then-is_empty c =
    let e = c.row_of_places-places.ensures in
    let a = c.args in
    let none : length a.erasures.now ≡ 0 = search rules in (
      refl,
      e,
      λ v W.
          (let L = subst (Lent a.width a.word.now) (sym e) W in
          record { width = v; lent = L; sums = plain-sums a.width v a.word.now _ L (ap length e ∙ none) _ (c.word_syndromes-sums.ensures v) }),
    )

pub returns-else-is_empty : goal.returns-else-is_empty
returns-else-is_empty c =
    let e = c.row_of_places-places.ensures in
    let a = c.args in (
      refl,
      e,
      λ v W. record {
        width = v;
        lent = subst (Lent a.width a.word.now) (sym e) W;
        sums = c.masked_sums-sums.ensures v W ∙ ap (λ (ls : List ℕ). syndromes_without a.width ls a.word.now) (sym e);
      },
    )
