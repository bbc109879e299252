-- `code::candidates::without_two` meets its contract. Assumes nothing.
use Rattle.field.proofs.Base.{ap, ◌∙◌, List, ℕ}
use Rattle.code.specs.Word.{five, at}
use Rattle.code.specs.inner.Locate.{point}
use Rattle.code.specs.inner.Beside.{eliminate}
use Rattle.code.proofs.restoring.Trying.{sums_lt}
use Rattle.code.proofs.finding.CheckPlaces.{first-lt}
use Rattle.code.proofs.candidates.without_two.Goals as goal

pub returns-then-q-ge5 : goal.returns-then-q-ge5
returns-then-q-ge5 c =
    λ w R hp hq.
    (let a = c.args in
    let first = c.differences.ensures R.width hp (sums_lt R) in
    c.differences-then-q-ge5.ensures R.width hq (first-lt R a.p.0 c.differences.result first)
    ∙ ap (λ (v : List ℕ). five (eliminate a.width 1 (point a.width a.q.0) (at v))) first)
