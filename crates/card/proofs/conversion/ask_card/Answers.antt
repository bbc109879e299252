-- `card::conversion::ask_card` meets its contract. Assumes nothing.
use Rattle.field.proofs.Base.{refl, ◌∙◌, length}
use Rattle.card.specs.Record.{size_of}
use Rattle.card.proofs.Findings.{found-card}
use Rattle.card.proofs.Converting.{lengths-are, asked-verdict}
use Rattle.card.proofs.conversion.ask_card.Goals as goal

pub returns-then-are_slots : goal.returns-then-are_slots
returns-then-are_slots c =
    let x = c.size_of-size in
    let a = c.args in
    let n = length a.card.now in
    asked-verdict a.k a.j a.card.now a.m
    (lengths-are a.k n x.result x.ensures a.j a.m c.are_slots.result c.if-card-size-ne0.false c.are_slots.ensures
    ∙ c.if-are_slots.true)
    (size_of a.k) refl c.see_part-found.result.passed
    (found-card a.k a.card.now c.nothing_found.result c.see_part-found.result c.nothing_found.ensures
    c.see_part-found.ensures)
    c.verdict_of.result c.verdict_of.ensures
