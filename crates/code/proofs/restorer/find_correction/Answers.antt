-- `code::restorer::find_correction` meets its contract. Assumes nothing.
use Rattle.field.proofs.Base.{le_refl}
use Rattle.code.specs.inner.Correction.{places_of}
use Rattle.code.proofs.restoring.Trying.{searched-last, none_within}
use Rattle.code.proofs.restorer.find_correction.Goals as goal

pub returns-in-Trials : goal.returns-in-Trials
returns-in-Trials c =
    let a = c.args in
    λ R. searched-last (le_refl a.reach) (none_within a.width a.word.now (places_of a.t) R.lent a.reach) (c.search.ensures R)
