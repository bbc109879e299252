-- `code::validation::symbols_below` meets its contract. Assumes nothing.
use Rattle.field.proofs.Base.{◌-◌, ◌≤◌, ◌≡◌, length, drop}
use Rattle.code.specs.Erasure.{symbols_from}
use Rattle.code.proofs.validation.symbols_below.Given as goal

abbrev pub invariant-loop-i : goal.invariant-loop-i
invariant-loop-i l = (l.i ≤ length l.word) × (symbols_from l.q l.erasures 0 l.word ≡ symbols_from l.q l.erasures l.i (drop l.i l.word))

abbrev pub decreases-loop-i : goal.decreases-loop-i
decreases-loop-i l = length l.word - l.i
