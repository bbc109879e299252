-- `code::erasures::Correction::apply` meets its contract: the values from i on are written, and the changes counted. Assumes nothing.
use Rattle.code.specs.inner.Place.{numbers}
use Rattle.code.proofs.restoring.Writing.{Written}
use Rattle.code.proofs.erasures.Correction.apply.Given as goal

abbrev pub invariant-loop-i : goal.invariant-loop-i
invariant-loop-i l = Written l.self.count (numbers l.self.places) l.self.values l.erasures l.initial.word l.word l.k l.i
