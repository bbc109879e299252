-- `card_csv::lines::list_sheets` meets its contract. Before turn i the lines of the first i slots are written, and these are counted. Assumes
-- nothing.
use Rattle.field.proofs.Base.{rules, ◌∙◌, ◌^◌, arith}
use Rattle.card.specs.Slots.{over_first}
use Rattle.card_csv.proofs.SheetLines.{lists-more, told-counts, counts-within}
use Rattle.card_csv.proofs.lines.list_sheets.Goals as goal

pub loop-i-init : goal.loop-i-init
unfolding over_first
loop-i-init c = search rules

pub list_slot-done-requires : goal.list_slot-done-requires
list_slot-done-requires c =
    let batch = c.args.batch.now in
    let i = c.loop-i.i in (
      omega arith,
      counts-within (2 ^ 62) (2 ^ 63) c.args.s _ batch i (c.loop-i.invariant.1 ∙ told-counts c.args.s batch i) c.requires.2 (omega arith),
    )

pub loop-i-preserved : goal.loop-i-preserved
loop-i-preserved c =
    let step = c.list_slot-done.ensures in
    let more = lists-more c.args.s c.args.batch.now c.loop-i.i _ c.record_from.ensures.bytes c.loop-i.invariant.0 c.loop-i.invariant.1 step.text step.counts in
    (more.0, more.1, omega arith)

pub returns-clause-counts : goal.returns-clause-counts
returns-clause-counts c = search (rules, told-counts c.args.s c.args.batch.now c.loop-i.i)
