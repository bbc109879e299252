-- `code::candidates::range_of` meets its contract. Assumes nothing.
use Rattle.field.proofs.Base.{List, ℕ}
use Rattle.code.specs.Word.{at}
use Rattle.code.specs.inner.Beside.{NoneOutside, Tell}
use Rattle.code.proofs.candidates.range_of.Given as goal

abbrev pub invariant-loop-k : goal.invariant-loop-k
invariant-loop-k l = (m : ℕ) (w es : List ℕ) → Tell m w es l.n (at l.rows) → NoneOutside m w es l.f.low.0 l.f.high.0
