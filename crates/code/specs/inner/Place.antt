-- Places and exponents, and the columns of the code's matrix, whose row k gives syndrome k. Assumes nothing.
use Rattle.std.specs.Prelude.{cond, List, [], ◌∷◌, ℕ, ◌+◌, ◌-◌, ◌*◌, eqb, ltb}
use Rattle.field.specs.Field.{power, α}
use Rattle.field.specs.declared.Exponent.{Exponent}
use Rattle.code.specs.declared.word.Place.{Place}
use Rattle.code.specs.Word.{checks}

-- places by their numbers: theorems on places speak of these
abbrev pub numbers : List Place → List ℕ
numbers [] = []
numbers (p ∷ ps) = p.0 ∷ numbers ps

-- the exponent i of place 5 + i: the one conversion between the two
abbrev pub exponent_of : Place → Exponent
exponent_of p = record { 0 = p.0 - checks }

-- and back: the place of an exponent
abbrev pub place_of : Exponent → Place
place_of e = record { 0 = e.0 + checks }

-- k times an exponent
abbrev pub multiple_of : ℕ → Exponent → Exponent
multiple_of k e = record { 0 = k * e.0 }

-- row k of the column at place p: a unit column at a check place, α^(k·i) at the place 5 + i
unfoldable pub column : ℕ → ℕ → ℕ → ℕ
column m p k = cond (ltb p checks) (cond (eqb p k) 1 0) (power m α (k * (p - checks)))
