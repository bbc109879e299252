-- `field::shift::shift_at` meets its contract. Assumes nothing.
use Rattle.field.proofs.Base.{rules, arith, ℕ, ◌<◌, subst, sym}
use Rattle.field.specs.Field.{order, power, α}
use Rattle.field.proofs.Widths.{field_of}
use Rattle.field.proofs.Shifts.{product-twice}
use Rattle.field.proofs.shift.shift_at.Goals as goal

pub returns-else-k-middle : goal.returns-else-k-middle
returns-else-k-middle c =
    λ o e.
    (let a = c.args in
    let m = a.width in
    let r = c.wrap-else-k-middle.result in
    let er = c.wrap-else-k-middle.ensures o e (search rules) in
    let small = (field_of m o.width).product_lt (power m α 2) a.a in
    product-twice m o.width a.a a.k.0 r c.wrap-else-k-middle-2.result (omega arith) er
    (c.wrap-else-k-middle-2.ensures (record { width = o.width; symbol = subst (λ (x : ℕ). x < order m) (sym er) small }) e (omega arith)))
