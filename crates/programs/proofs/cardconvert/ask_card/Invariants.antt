-- `programs::cardconvert::ask_card` meets its contract. Before turn i the questions have come over i whole batches. Assumes nothing.
use Rattle.field.proofs.Base.{◌≡◌, true, ◌*◌}
use Rattle.card.specs.Findings.{nothing_found, part_found}
use Rattle.programs.specs.inner.Turns.{TookAll}
use Rattle.programs.proofs.Converting.{batch}
use Rattle.programs.proofs.cardconvert.ask_card.Given as goal

abbrev pub invariant-loop : goal.invariant-loop
invariant-loop l = (l.input.going ≡ true) × TookAll (part_found l.k) (l.counter * batch l.k) nothing_found l.s l.input
