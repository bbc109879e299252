-- `code::word::powers_times` meets its contract. Assumes nothing.
use Rattle.field.proofs.Base.{ap, ◌∙◌}
use Rattle.field.specs.declared.Exponent.{Exponent}
use Rattle.field.proofs.Bytes.{ratio-own}
use Rattle.code.proofs.finding.Times.{powers-times}
use Rattle.code.proofs.word.powers_times.Goals as goal

pub returns : goal.returns
returns c =
    λ h n.
    (let a = c.args in
    c.powers_from.ensures
    ∙ powers-times a.p.0 c.exponent_of.result.0 c.requires.0 (ap (λ (e : Exponent). e.0) c.exponent_of.ensures) a.x
    c.ratio_exponent.result.0 h n (ratio-own _ _ _ c.ratio_exponent.ensures.1))
