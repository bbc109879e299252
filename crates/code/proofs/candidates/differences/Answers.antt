-- `code::candidates::differences` meets its contract. Assumes nothing.
use Rattle.field.proofs.Base.{rules, ◌≡◌, length}
use Rattle.field.proofs.Widths.{field_of}
use Rattle.code.proofs.finding.CheckPlaces.{differences-row}
use Rattle.code.proofs.candidates.differences.Goals as goal

pub returns : goal.returns
returns c =
    λ w h b.
    (let a = c.args in
    let size : length a.rows ≡ 5 = search rules in
    differences-row (field_of a.width w) a.a.0 c.point.result a.rows c.add_times-r.result w size h b (c.point.ensures w) c.add_times-r.ensures)
