-- `field::parity::parities` meets its contract. Assumes nothing.
use Rattle.field.proofs.Base.{◌∙◌}
use Rattle.field.proofs.Evaluation.{sums-seven}
use Rattle.field.proofs.parity.parities.Goals as goal

pub returns-then-symbols-eq127 : goal.returns-then-symbols-eq127
returns-then-symbols-eq127 c =
    let a = c.args in
    c.by_folds.ensures ∙ sums-seven a.width a.symbols.now c.if-width-eq7.true c.if-symbols-eq127.true
