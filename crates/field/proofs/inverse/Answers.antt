-- `field::inverse` meets its contract. Assumes nothing.
use Rattle.field.proofs.Base.{rules, ap, ◌∙◌}
use Rattle.field.specs.Question.{accepted}
use Rattle.field.proofs.Ask.{after-passed, ask-nonzero, operand-first}
use Rattle.field.proofs.Bytes.{inverted-inverse}
use Rattle.field.proofs.inverse.Goals as goal

pub returns : goal.returns
returns c =
    let v = c.ask_symbol in
    ap accepted (c.invert.ensures ∙ inverted-inverse (operand-first c.args.width c.args.a _ v.result v.ensures (search rules)))
    ∙ ask-nonzero c.args.a _ c.if-a-eq0.false
    ∙ after-passed v.result _ _ v.ensures (search rules)
