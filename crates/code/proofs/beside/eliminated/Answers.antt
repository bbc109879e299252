-- `code::beside::eliminated` meets its contract. Assumes nothing.
use Rattle.field.proofs.Base.{ap, ◌∙◌, ℕ}
use Rattle.field.specs.Polynomial.{add}
use Rattle.field.specs.Field.{product}
use Rattle.field.proofs.Widths.{field_of}
use Rattle.field.proofs.Bytes.{xor-add}
use Rattle.code.proofs.finding.Locating.{column-point}
use Rattle.code.proofs.beside.eliminated.Goals as goal

pub returns : goal.returns
returns c =
    λ w h l.
    (let a = c.args in
    let m = a.width in
    xor-add a.high c.entry_times.result
    ∙ ap (add a.high) (c.entry_times.ensures w l ∙ ap (λ (n : ℕ). product m n a.low) (column-point (field_of m w) a.a.0 a.h h)))
