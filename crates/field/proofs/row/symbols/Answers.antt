-- `field::row::symbols` meets its contract. Assumes nothing.
use Rattle.field.proofs.Base.{rules, ap, ◌∙◌, ℕ, ◌*◌, arith}
use lib.Bits.{bit_and}
use Rattle.field.specs.Sum.{at}
use Rattle.field.proofs.Packing.{number-of-bytes}
use Rattle.field.proofs.Lanewise.{ones, lanes-cut}
use Rattle.field.proofs.row.symbols.Goals as goal

pub returns : goal.returns
returns c =
    let row = c.args.row in
    ap (λ (a : ℕ). bit_and a (ones * 127)) (c.from_le_bytes.ensures ∙ number-of-bytes row) ∙ lanes-cut 8 (at row) (omega arith) (λ j h. search rules)
