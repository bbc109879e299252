-- `field::arithmetic::symbol_of` meets its contract. Assumes nothing.
use Rattle.field.proofs.Base.{refl, sym}
use Rattle.field.proofs.Bytes.{width_is, width-other, symbol-at}
use Rattle.field.proofs.arithmetic.symbol_of.Goals as goal

pub returns-in-3 : goal.returns-in-3
returns-in-3 c = sym (symbol-at _ 3 (width_is _ 3 refl c.in-3.is) _)

pub returns-in-4 : goal.returns-in-4
returns-in-4 c = sym (symbol-at _ 4 (width_is _ 4 refl c.in-4.is) _)

pub returns-in-5 : goal.returns-in-5
returns-in-5 c = sym (symbol-at _ 5 (width_is _ 5 refl c.in-5.is) _)

pub returns-in_default : goal.returns-in_default
returns-in_default c =
    let other = c.in_default.in_default-own.rest in sym (symbol-at _ 7 (width-other _ other.0.0.1 other.0.1 other.1) _)
