-- `field::power` meets its contract. Assumes nothing.
use Rattle.field.proofs.Base.{rules, ap, ◌∙◌}
use Rattle.field.specs.Question.{accepted}
use Rattle.field.proofs.Ask.{after-passed, operand-first}
use Rattle.field.proofs.Bytes.{raised-power}
use Rattle.field.proofs.power.Goals as goal

pub returns : goal.returns
returns c =
    let v = c.ask_symbol in
    ap accepted (c.raise.ensures ∙ raised-power (operand-first c.args.width c.args.a _ v.result v.ensures (search rules)) _)
    ∙ after-passed v.result _ _ v.ensures (search rules)
