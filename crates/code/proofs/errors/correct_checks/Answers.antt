-- `code::errors::correct_checks` meets its contract. Assumes nothing.
use Rattle.field.proofs.Base.{◌∙◌, arith}
use Rattle.code.proofs.finding.PlainWays.{checks-found}
use Rattle.code.proofs.errors.correct_checks.Goals as goal

pub returns : goal.returns
returns c =
    let z = c.byte_at-z in
    let y = c.byte_at-y in
    let a = c.args in
    λ m R e. checks-found m a.word.now a.t c.nonzeros-js.result c.nonzeros-js.ensures.1 a.reach _ R e c.requires (omega (arith, c.if-reach-js.false))
    (λ ls f L ey ez. c.correction_of.ensures ls f L (y.ensures ∙ ey) (z.ensures ∙ ez))
