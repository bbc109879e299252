-- `programs::cardlist::end_full` meets its contract. Assumes nothing.
use Rattle.field.proofs.Base.{rules, refl, arith}
use Rattle.programs.proofs.Batches.{goes-going, goes-ok, denied-yes, denied-no}
use Rattle.programs.proofs.Listing.{ends-small, last-writable, more-writable, ends-full, ends-cut, ends_more}
use Rattle.programs.proofs.cardlist.end_full.Goals as goal

pub read_batch-input-requires : goal.read_batch-input-requires
read_batch-input-requires c =
    let g = goes-going c.args.t c.requires.1 in
    (g, c.requires.0.lists.took.well g, ends-small c.args.t c.requires.0)

pub write_total-requires : goal.write_total-requires
write_total-requires c = last-writable c.args.t c.requires.0 (goes-ok c.args.t c.requires.1) 80 (omega arith)

pub returns-then-count-eq0 : goal.returns-then-count-eq0
returns-then-count-eq0 c = ends-full c.args.t c.requires.0 (goes-ok c.args.t c.requires.1) (goes-going c.args.t c.requires.1) c.read_batch-input.ensures refl c.count.ensures (search rules) c.write_total.ensures

pub write_more-output-requires : goal.write_more-output-requires
write_more-output-requires c = last-writable c.args.t c.requires.0 (goes-ok c.args.t c.requires.1) 8 (omega arith)

pub returns-then-not-ok : goal.returns-then-not-ok
returns-then-not-ok c = ends-cut c.args.t c.requires.0 (goes-ok c.args.t c.requires.1) (goes-going c.args.t c.requires.1) c.read_batch-input.ensures refl c.count.ensures _ (denied-yes c.ok.ensures (search rules))

pub write_total-requires-2 : goal.write_total-requires-2
write_total-requires-2 c = more-writable c.args.t c.requires.0 (goes-ok c.args.t c.requires.1) _ c.write_more-output.ensures (denied-no c.ok.ensures (search rules))

pub returns : goal.returns
returns c = ends_more c.args.t c.requires.0 (goes-ok c.args.t c.requires.1) (goes-going c.args.t c.requires.1) c.read_batch-input.ensures refl c.count.ensures c.write_more-output.result (search rules) c.write_more-output.ensures (denied-no c.ok.ensures (search rules)) c.write_total-2.ensures
