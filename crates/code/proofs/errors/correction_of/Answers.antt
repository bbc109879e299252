-- `code::errors::correction_of` meets its contract. Assumes nothing.
use Rattle.field.proofs.Base.{refl, ap₂, ◌∙◌}
use Rattle.field.specs.Polynomial.{add}
use Rattle.field.proofs.Bytes.{xor-add}
use Rattle.code.proofs.finding.PlainWays.{correction-adds}
use Rattle.code.proofs.errors.correction_of.Goals as goal

pub returns : goal.returns
returns c =
    let p = c.byte_at in
    let q = c.byte_at-2 in
    let a = c.args in
    λ ls e L ey ez. correction-adds a.word.now a.f _ _ _ c.requires refl refl refl ls e L
    (xor-add p.result a.y ∙ ap₂ add p.ensures ey) (xor-add q.result a.z ∙ ap₂ add q.ensures ez)
