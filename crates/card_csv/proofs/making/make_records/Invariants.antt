-- `card_csv::making::make_records` meets its contract. Before each turn the lines of the first bytes were taken, none was refused, and the rest
-- is what stands behind them. Assumes nothing.
use Rattle.field.proofs.Base.{◌≡◌, true, length, drop}
use Rattle.card_csv.specs.Making.{is_fine}
use Rattle.card_csv.proofs.TextParts.{Making}
use Rattle.card_csv.proofs.making.make_records.Given as goal

abbrev pub invariant-loop-n : goal.invariant-loop-n
invariant-loop-n l =
    (is_fine l.done.state.verdict ≡ true)
    × (l.rest ≡ drop l.done.taken l.text)
    × Making l.text l.initial.done.state l.initial.out l.done l.out

abbrev pub decreases-loop-n : goal.decreases-loop-n
decreases-loop-n l = length l.rest
