-- The half-trace. Assumes nothing.
use Rattle.std.specs.Prelude.{ℕ}
use Rattle.field.specs.Polynomial.{add}
use Rattle.field.specs.Field.{power}

-- the half-trace of c at width 7: where x² + x = c has roots, it is one of the two, and the other is that plus 1 (proofs/HalfTrace.antt)
unfoldable pub half_trace : ℕ → ℕ
half_trace c = add (add (add c (power 7 c 4)) (power 7 c 16)) (power 7 c 64)
