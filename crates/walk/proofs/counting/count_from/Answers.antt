-- `walk::counting::count_from` meets its contract. Assumes nothing.
use Rattle.field.proofs.Base.{rules, refl, ◌*◌, ◌^◌, arith}
use Rattle.walk.proofs.Tallying.{counts-none, counts-within, counts-on}
use Rattle.walk.proofs.counting.count_from.Goals as goal

pub loop-i-init : goal.loop-i-init
loop-i-init c = (refl, counts-none _ _ _ _)

pub count_at-progress-requires : goal.count_at-progress-requires
count_at-progress-requires c =
    let turn = c.loop-i in (
      omega arith,
      counts-within _ _ turn.i c.args.s turn.progress _ _ turn.invariant.1 (3 * 2 ^ 61) (2 ^ 63) c.requires.1 (omega arith),
    )

pub loop-i-preserved : goal.loop-i-preserved
loop-i-preserved c = (search rules, search (rules, counts-on))
