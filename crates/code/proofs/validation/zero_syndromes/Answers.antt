-- `code::validation::zero_syndromes` meets its contract. Assumes nothing.
use Rattle.field.proofs.Base.{ap, ◌∙◌}
use Rattle.code.specs.Call.{all_zero, zero_syndromes}
use Rattle.code.proofs.validation.zero_syndromes.Goals as goal

pub returns : goal.returns
unfolding zero_syndromes
returns c w size b = c.all_zero.ensures ∙ ap all_zero (c.word_syndromes-s.ensures w size b)
