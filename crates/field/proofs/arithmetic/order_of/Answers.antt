-- `field::arithmetic::order_of` meets its contract. Assumes nothing.
use Rattle.field.proofs.Base.{sym}
use Rattle.field.proofs.Ask.{order-none}
use Rattle.field.proofs.arithmetic.order_of.Goals as goal

pub returns-in_default : goal.returns-in_default
returns-in_default c =
    let other = c.in_default.in_default-own.rest in sym (order-none c.args.width other.0.0.0.1 other.0.0.1 other.0.1 other.1)
