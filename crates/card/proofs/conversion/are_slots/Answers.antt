-- `card::conversion::are_slots` meets its contract. Assumes nothing.
use Rattle.field.proofs.Base.{ap, ◌∙◌, ℕ, ◌*◌, arith, eqb}
use Rattle.card.proofs.Slots.{slots-other}
use Rattle.card.proofs.conversion.are_slots.Goals as goal

pub returns-else-m-size : goal.returns-else-m-size
returns-else-m-size c =
    let x = c.size_of-size in
    let a = c.args in
    slots-other a.m x.result a.n (omega (arith, x.ensures)) c.if-m-size.false
    ∙ ap (λ (s : ℕ). eqb a.m (a.n * s)) x.ensures
