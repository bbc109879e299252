-- `card::listing::list_records` meets its contract. Before turn i the lines of the first i slots are written, and the listing has come to
-- the next one. Assumes nothing.
use Rattle.field.proofs.Base.{rules, ◌∙◌, ◌^◌, arith}
use Rattle.card.specs.Record.{record_of}
use Rattle.card.specs.Slots.{over_first}
use Rattle.card.proofs.Lines.{piece-some, lists-more, told-progress}
use Rattle.card.proofs.Bounds.{lines-short, few-places, progress-within}
use Rattle.card.proofs.listing.list_records.Goals as goal

pub loop-i-init : goal.loop-i-init
unfolding over_first
loop-i-init c = search rules

pub list_slot-done-requires : goal.list_slot-done-requires
list_slot-done-requires c =
    let batch = c.args.batch.now in
    let i = c.loop-i.i in (
      piece-some batch _ i c.record_from.ensures.bytes (omega arith),
      omega (arith, lines-short c.args.s batch i),
      progress-within record_of few-places (2 ^ 62) (2 ^ 63) c.args.s _ batch i (c.loop-i.invariant.1 ∙ told-progress c.args.s batch i) c.requires.2
          (omega arith),
    )

pub loop-i-preserved : goal.loop-i-preserved
loop-i-preserved c =
    let step = c.list_slot-done.ensures in
    lists-more c.args.s c.args.batch.now c.loop-i.i _ c.record_from.ensures.bytes c.loop-i.invariant step.text step.progress

pub returns-clause-progress : goal.returns-clause-progress
returns-clause-progress c = search (rules, told-progress c.args.s c.args.batch.now c.loop-i.i)
