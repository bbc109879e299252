-- `field::product` meets its contract. Assumes nothing.
use Rattle.field.proofs.Base.{rules, ap, ◌∙◌}
use Rattle.field.specs.Question.{accepted}
use Rattle.field.proofs.Ask.{after-passed, operand-first, operand-second}
use Rattle.field.proofs.Bytes.{multiplied-product}
use Rattle.field.proofs.product.Goals as goal

pub returns : goal.returns
returns c =
    let m = c.args.width in
    let a = c.args.a in
    let b = c.args.b in
    let v = c.ask_symbols in
    ap accepted (c.multiply.ensures ∙ multiplied-product (operand-first m a _ v.result v.ensures (search rules)) (operand-second m a b v.result v.ensures (search rules)))
    ∙ after-passed v.result _ _ v.ensures (search rules)
