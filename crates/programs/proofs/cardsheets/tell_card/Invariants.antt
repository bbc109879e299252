-- `programs::cardsheets::tell_card` meets its contract. Assumes nothing.
use Rattle.programs.specs.inner.Tells.{TellsSome}
use Rattle.programs.proofs.cardsheets.tell_card.Given as goal

abbrev pub invariant-loop : goal.invariant-loop
invariant-loop l = TellsSome l.counter l.t
