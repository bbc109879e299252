-- `field::row::scaled` meets its contract. Assumes nothing.
use Rattle.field.proofs.Base.{refl, ◌∙◌}
use Rattle.field.specs.Polynomial.{add}
use Rattle.field.specs.Sum.{sum}
use Rattle.field.proofs.Scaling.{named-more, named-same}
use Rattle.field.proofs.row.scaled.Goals as goal
use Rattle.field.proofs.row.scaled.Goals.{then-k-i-eq1, else-k-i-eq1}

pub loop-i-init : goal.loop-i-init
unfolding sum
loop-i-init c = refl

pub loop-i-preserved : goal.loop-i-preserved
unfolding add
loop-i-preserved c =
    let k = c.args.k in
    let ms = c.args.ms in
    elim c.if-k-i-eq1.branch [
      | then-k-i-eq1 w ↦ w.sum-is ∙ named-more c.loop-i.i k c.loop-i.sum ms c.loop-i.invariant w.if-k-i-eq1.true
      | else-k-i-eq1 w ↦ w.sum-is ∙ named-same c.loop-i.i k c.loop-i.sum ms c.loop-i.invariant w.if-k-i-eq1.false
    ]
