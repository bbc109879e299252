-- `code::erasures::row_of_places` meets its contract. Assumes nothing.
use Rattle.field.proofs.Base.{refl, arith, length-set}
use Rattle.code.proofs.Places.{made-on}
use Rattle.code.proofs.erasures.row_of_places.Goals as goal

pub loop-i-preserved : goal.loop-i-preserved
loop-i-preserved c =
    let l = c.loop-i in (
      simp length-set l.invariant.0,
      omega arith,
      made-on c.args.erasures.now l.out l.i _ l.invariant.2 (omega arith) (omega (arith, l.invariant.0, c.requires)) refl,
    )
