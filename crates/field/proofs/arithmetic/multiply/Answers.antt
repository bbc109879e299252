-- `field::arithmetic::multiply` meets its contract. Assumes nothing.
use Rattle.field.proofs.Base.{sym, ◌∙◌}
use Rattle.field.proofs.Bytes.{width-large, multiplied-at}
use Rattle.field.proofs.arithmetic.multiply.Goals as goal

pub returns-in_default : goal.returns-in_default
returns-in_default c = c.multiply7.ensures ∙ sym (multiplied-at _ 7 (width-large _ (λ l. l.if-width-lt3-1.true) (λ g. g.if-width-lt6-1.false) c.in_default.branch-raw) _ _)
