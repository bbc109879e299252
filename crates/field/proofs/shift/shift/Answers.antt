-- `field::shift::shift` meets its contract. Assumes nothing.
use Rattle.field.proofs.Base.{refl, sym, ◌∙◌}
use Rattle.field.specs.Field.{polynomial}
use Rattle.field.proofs.Bytes.{width_is, width-other, operand_low, shifted_at}
use Rattle.field.proofs.shift.shift.Goals as goal

pub returns-in-3 : goal.returns-in-3
unfolding polynomial
returns-in-3 c = c.shift_at.ensures (operand_low 3 _ refl) refl ∙ sym (shifted_at _ 3 (width_is _ 3 refl c.in-3.is) _ _)

pub returns-in-4 : goal.returns-in-4
unfolding polynomial
returns-in-4 c = c.shift_at-in-4.ensures (operand_low 4 _ refl) refl ∙ sym (shifted_at _ 4 (width_is _ 4 refl c.in-4.is) _ _)

pub returns-in-5 : goal.returns-in-5
unfolding polynomial
returns-in-5 c = c.shift_at-in-5.ensures (operand_low 5 _ refl) refl ∙ sym (shifted_at _ 5 (width_is _ 5 refl c.in-5.is) _ _)

pub returns-in_default : goal.returns-in_default
unfolding polynomial
returns-in_default c =
    let other = c.in_default.in_default-own.rest in
    c.shift_at-in_default.ensures (operand_low 7 _ refl) refl ∙ sym (shifted_at _ 7 (width-other _ other.0.0.1 other.0.1 other.1) _ _)
