-- `card_csv::making::make_records` meets its contract. Before each turn the lines of the first bytes were taken, none was refused, and the rest
-- is what stands behind them. Assumes nothing.
use Rattle.field.proofs.Base.{refl, sym, ◌∙◌, ◌+◌, arith}
use Rattle.card_csv.proofs.Cutting.{rest_all}
use Rattle.card_csv.proofs.LineEnds.{line-cut, line-none}
use Rattle.card_csv.proofs.TextParts.{making-start, making-stop, making-end, making-room, making-more, rest-is}
use Rattle.card_csv.proofs.making.make_records.Goals as goal

pub loop-n-init : goal.loop-n-init
loop-n-init c = (c.requires.0, refl, making-start c.args.text.now c.args.s c.args.out.now)

pub take_line-requires : goal.take_line-requires
take_line-requires c =
    let l = c.loop-n in
    let M = l.invariant.2 in
    let E = line-cut l.rest.now c.in-Some.n (sym c.find.ensures ∙ c.in-Some.is) in
    (l.invariant.0, omega (arith, M.few, M.inside), making-room M l.invariant.1 E c.requires.2 c.requires.3)

pub returns-then-not-is_fine : goal.returns-then-not-is_fine
returns-then-not-is_fine c =
    let l = c.loop-n in
    let x = c.take_line.ensures in
    let E = line-cut l.rest.now c.in-Some.n (sym c.find.ensures ∙ c.in-Some.is) in
    making-stop l.invariant.2 l.invariant.1 E x.state x.records l.invariant.0 (sym c.is_fine.ensures ∙ c.if-not-is_fine.true)

pub loop-n-preserved : goal.loop-n-preserved
loop-n-preserved c =
    let l = c.loop-n in
    let x = c.take_line.ensures in
    let n = c.in-Some.n in
    let E = line-cut l.rest.now n (sym c.find.ensures ∙ c.in-Some.is) in (
      sym c.is_fine.ensures ∙ c.if-not-is_fine.false,
      rest_all l.rest.now (n + 1) ∙ rest-is l.invariant.2 l.invariant.1 E,
      making-more l.invariant.2 l.invariant.1 E x.state x.records,
    )

pub returns : goal.returns
returns c =
    let l = c.loop-n in
    making-end l.invariant.2 l.invariant.1 l.invariant.0 (line-none l.rest.now (sym c.find.ensures ∙ c.in_default.is))
