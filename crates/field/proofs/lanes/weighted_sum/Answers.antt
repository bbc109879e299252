-- `field::lanes::weighted_sum` meets its contract. Assumes nothing.
use Rattle.field.proofs.Base.{ap, ◌∙◌, ℕ, ◌%◌, mod-eq_of_lt, arith}
use native.Mathlib.Nat.{lt_trans}
use Rattle.field.specs.Polynomial.{add}
use Rattle.field.proofs.Sums.{sum_lt}
use Rattle.field.proofs.Lanewise.{F}
use Rattle.field.proofs.Folding.{folded}
use Rattle.field.proofs.lanes.weighted_sum.Goals as goal

pub returns : goal.returns
unfolding add
returns c =
    λ f b q.
    (let is = folded c.args.e.0 c.args.a _ _ _ f c.times.ensures c.times-2.ensures c.times-3.ensures b q in
    let small = lt_trans (sum_lt F 8 _ (λ i h. F.product_lt _ _)) (omega arith) in
    ap (λ (x : ℕ). x % 256) is ∙ mod-eq_of_lt small)
