-- `field::row::add_multiple` meets its contract. Assumes nothing.
use Rattle.field.proofs.Base.{rules, ap, ap₂, ◌∙◌, ℕ}
use Rattle.field.specs.Polynomial.{add}
use Rattle.field.specs.Sum.{at}
use Rattle.field.specs.inner.Lanes.{lane}
use Rattle.field.proofs.Bytes.{xor-add}
use Rattle.field.proofs.Packing.{lane-lanes, lane-add, eight-cong, number-of-bytes, bytes-of-number}
use Rattle.field.proofs.row.add_multiple.Goals as goal

pub returns : goal.returns
returns c =
    let row = c.args.row in
    let x : ℕ = c.from_le_bytes.result in
    let y : ℕ = c.scaled.result in
    c.to_le_bytes.ensures ∙ bytes-of-number _
    ∙ eight-cong _ _ (λ j h. ap (λ (a : ℕ). lane a j) (xor-add x y) ∙ lane-add x y j
    ∙ ap₂ add (ap (λ (a : ℕ). lane a j) (c.from_le_bytes.ensures ∙ number-of-bytes row) ∙ lane-lanes 8 (at row) j h (λ i l. search rules))
    (ap (λ (a : ℕ). lane a j) c.scaled.ensures))
