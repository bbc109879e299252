-- `card::parts::see_part` meets its contract. Before turn i the findings are those of the first i slots. Assumes nothing.
use Rattle.field.proofs.Base.{◌≡◌}
use Rattle.card.proofs.Findings.{slots_found}
use Rattle.card.proofs.parts.see_part.Given as goal

abbrev pub invariant-loop-i : goal.invariant-loop-i
invariant-loop-i l = l.found ≡ slots_found l.k l.initial.found l.part l.i
