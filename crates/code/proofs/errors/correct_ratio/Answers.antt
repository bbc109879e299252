-- `code::errors::correct_ratio` meets its contract. Assumes nothing.
use Rattle.field.proofs.Base.{ap, sym, subst, ℕ, ◌<◌, arith}
use Rattle.field.specs.Field.{order}
use Rattle.field.proofs.Widths.{field_of}
use Rattle.code.proofs.restoring.Trying.{sums_lt}
use Rattle.code.proofs.finding.PlainWays.{ratio-zero, ratio-out, ratio-beside}
use Rattle.code.proofs.errors.correct_ratio.Goals as goal

pub returns-then-x-eq0 : goal.returns-then-x-eq0
returns-then-x-eq0 c =
    let a = c.args in
    λ R e. ratio-zero a.width R.width a.word.now a.t.sums a.reach a.a c.if-x-eq0.true

pub returns-in_default : goal.returns-in_default
returns-in_default c =
    let a = c.args in
    λ R e. ratio-out a.width R.width a.word.now a.t.sums a.reach a.a _ (omega (arith, R.lent.size, c.items_of-n.ensures.0)) c.in_default.ensures.1

pub returns : goal.returns
returns c =
    let i = c.items_of-n in
    let a = c.args in
    let ep = ap (λ q. q.0) c.place_of-p.ensures in
    let E = c.in-Some.ensures in
    λ R e.
    (let y = c.value_from.ensures R.width (sums_lt R a.a (omega (arith, c.requires))) in
    ratio-beside a.width R.width a.word.now a.t.sums a.reach a.a i.result (omega (arith, R.lent.size, i.ensures.0))
    c.in-Some.root E.1 _ c.place_of-p.result.0 c.value_from.result ep y c.requires.0
    (c.correct_beside.ensures R e (omega (arith, ep)) (omega (arith, ep, R.lent.size, i.ensures.0, E.0))
    (subst (λ (n : ℕ). n < order a.width) (sym y) ((field_of a.width R.width).product_lt _ _))))
