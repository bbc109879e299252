-- `code::errors::correct_beside` meets its contract. Assumes nothing.
use Rattle.field.proofs.Base.{◌∙◌, arith}
use Rattle.code.proofs.finding.PlainWays.{beside-over, beside-found}
use Rattle.code.proofs.errors.correct_beside.Goals as goal

pub returns-then-reach-js : goal.returns-then-reach-js
returns-then-reach-js c =
    let a = c.args in
    λ R e hp lp hy. beside-over R a.p a.y c.masked-rest.result (c.masked-rest.ensures R.width hy) c.nonzeros-js.result c.nonzeros-js.ensures.1 a.reach
    c.if-reach-js.true

pub returns : goal.returns
returns c =
    let z = c.byte_at-z in
    let a = c.args in
    λ R e hp lp hy. beside-found R a.p a.y c.masked-rest.result (c.masked-rest.ensures R.width hy) c.nonzeros-js.result c.nonzeros-js.ensures.1 a.reach _
    e hp lp hy c.requires (omega (arith, c.if-reach-js.false))
    (λ ls f L ey ez. c.correction_of.ensures ls f L ey (z.ensures ∙ ez))
