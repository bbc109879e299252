-- `card::conversion::convert_slots` meets its contract. Before turn i the first i slots are written. Assumes nothing.
use Rattle.field.proofs.Base.{◌≡◌, ◌++◌, ◌*◌, length, drop}
use Rattle.card.specs.Record.{size_of}
use Rattle.card.specs.inner.Leading.{converted_slots}
use Rattle.card.proofs.conversion.convert_slots.Given as goal

abbrev pub invariant-loop-i : goal.invariant-loop-i
invariant-loop-i l = (length l.out ≡ length l.initial.out) × (l.out ≡ converted_slots l.k l.j l.card l.i ++ drop (l.i * size_of l.j) l.initial.out)
