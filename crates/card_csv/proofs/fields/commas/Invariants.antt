-- `card_csv::fields::commas` meets its contract. Before each turn there were n. Assumes nothing.
use Rattle.field.proofs.Base.{◌≡◌, ◌+◌, ◌≤◌, drop}
use Rattle.code.specs.Demands.{occurs}
use Rattle.card_csv.specs.Text.{separator}
use Rattle.card_csv.proofs.fields.commas.Given as goal

abbrev pub invariant-loop-b : goal.invariant-loop-b
invariant-loop-b l = (l.n ≤ l.b-index) × (l.n + occurs separator (drop l.b-index l.text) ≡ occurs separator l.text)
