-- `card_csv::fields::trimmed` meets its contract. Assumes nothing.
use Rattle.field.proofs.Base.{ap, ◌∙◌}
use Rattle.std.proofs.Common.{Bor, List, ℕ}
use Rattle.card_csv.proofs.Cutting.{stripped}
use Rattle.card_csv.proofs.fields.trimmed.Goals as goal

pub returns : goal.returns
returns c = ap (λ (x : Bor (List ℕ)). x.now) c.unwrap_or.ensures ∙ stripped c.args.line c.strip_suffix.result c.strip_suffix.ensures.cases
