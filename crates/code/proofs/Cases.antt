-- The cases hold, the starred ones and the codeword of width 4 by a computed test; and with that codeword the distance at width 4 is not 5.
-- Assumes nothing.
use Rattle.field.proofs.Base.{List, [], ◌∷◌, ◌++◌, arith, T, lit<}
use Rattle.field.specs.inner.Operand.{arithmetic}
use Rattle.code.specs.Word.{sum, at, Codeword}
use Rattle.code.specs.inner.Place.{column}
use Rattle.code.specs.Erasure.{total}
use Rattle.code.specs.Call.{same_bytes, zero_syndromes, restore_asked}
use Rattle.code.specs.Demands.{DistanceNotFive}
use Rattle.code.specs.Cases.{Case, starred, five_erasures, four_symbols, width_four, cases, Table}
use Rattle.code.proofs.Columns.{combine}
use Rattle.code.proofs.CaseTable.{table?, table_of, codeword-of}
use Rattle.code.proofs.FiveErasures.{five-hold}

starred-pass : T (table? starred)
unfolding arithmetic sum total same_bytes zero_syndromes restore_asked column combine
starred-pass = tt

four-codeword : Codeword 4 four_symbols
unfolding arithmetic sum zero_syndromes
four-codeword = codeword-of 4 four_symbols tt

four-hold : Table width_four
four-hold = (four-codeword, tt)

both_hold : (xs ys : List Case) → Table xs → Table ys → Table (xs ++ ys)
both_hold [] ys h k = k
both_hold (x ∷ xs) ys h k = (h.0, both_hold xs ys h.1 k)

pub cases-hold : Table cases
cases-hold = both_hold starred (five_erasures ++ width_four) (table_of starred starred-pass) (both_hold five_erasures width_four five-hold four-hold)

-- four symbols of it are other than 0
pub distance-not-five : DistanceNotFive
unfolding total
distance-not-five d =
    let z = d (at four_symbols) four-codeword.symbols four-codeword.zero-syndromes (lit< tt) 2 (lit< tt) in
    omega arith
