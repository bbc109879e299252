-- `card::cards::blank_in` meets its contract. Assumes nothing.
use Rattle.field.proofs.Base.{sym, ◌∙◌}
use Rattle.card.proofs.Blank.{blank-no, blank-whole}
use Rattle.card.proofs.cards.blank_in.Goals as goal

pub returns-then-slot-size_of : goal.returns-then-slot-size_of
returns-then-slot-size_of c =
    let a = c.args in blank-no a.k a.slot.now (λ e. c.if-slot-size_of.true (e ∙ sym c.size_of.ensures))

pub returns : goal.returns
returns c =
    let a = c.args in
    blank-whole a.k a.slot.now c.all_are.result (c.if-slot-size_of.false ∙ c.size_of.ensures) c.all_are.ensures
