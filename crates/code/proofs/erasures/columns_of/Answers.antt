-- `code::erasures::columns_of` meets its contract: the first j columns are filled in. Assumes nothing.
use Rattle.field.proofs.Base.{ap, ◌∙◌, subst, List, ℕ, arith}
use Rattle.code.specs.Word.{five}
use Rattle.code.specs.inner.Place.{numbers, column}
use Rattle.code.specs.inner.Correction.{SystemColumns}
use Rattle.code.proofs.Places.{numbers-at, numbers-length, numbers-whole}
use Rattle.code.proofs.restoring.Correcting.{columns-on}
use Rattle.code.proofs.erasures.columns_of.Goals as goal

pub loop-j-preserved : goal.loop-j-preserved
loop-j-preserved c =
    let a = c.args in
    let ps = a.places.now in (
      omega arith,
      columns-on _ (numbers ps) c.loop-j.j (omega (arith, numbers-length ps)) c.loop-j.invariant.1 (omega (arith, c.requires))
          (λ w. c.whole_column.ensures w ∙ ap (λ (p : ℕ). five (column a.width p)) (numbers-at ps c.loop-j.j)),
    )

pub returns : goal.returns
returns c =
    let a = c.args in
    subst (λ (ls : List ℕ). SystemColumns a.width ls c.loop-j.columns) (numbers-whole a.places.now c.loop-j.j (omega arith)) c.loop-j.invariant.1
