-- Columns behind a number. Assumes nothing.
use Rattle.std.specs.Prelude.{Ok, Err, Result, Bool, true, false, cond, List, ℕ}
use Rattle.card_csv.specs.declared.Fault.{Fault}
use Rattle.card_csv.specs.declared.Fault.TheVariants.{Number}
use Rattle.card_csv.specs.Reading.{first_column, other_columns, is_decimal}

-- the columns behind a number, where there is that column, or that it is none
unfoldable pub behind_number : Bool → List ℕ → Result (List ℕ) Fault
behind_number true text = cond (is_decimal 20 (first_column text)) (Ok (other_columns text)) (Err Number)
behind_number false text = Ok text
