-- `programs::cardlist::end_listing` meets its contract. Assumes nothing.
use Rattle.field.proofs.Base.{rules, arith}
use Rattle.programs.proofs.Batches.{both_true, asked-yes, asked-no, denied-yes, denied-no}
use Rattle.programs.proofs.Listing.{ends-unwritten, last-writable, ends-here}
use Rattle.programs.proofs.cardlist.end_listing.Goals as goal

pub returns-then-not-ok : goal.returns-then-not-ok
returns-then-not-ok c = ends-unwritten c.args.t c.requires (denied-yes c.ok.ensures (search rules))

pub end_full-requires : goal.end_full-requires
end_full-requires c = (c.requires, both_true c.args.t.input.going c.args.t.output.ok (asked-yes c.going.ensures (search rules)) (denied-no c.ok.ensures (search rules)))

pub write_total-requires : goal.write_total-requires
write_total-requires c = last-writable c.args.t c.requires (denied-no c.ok.ensures (search rules)) 80 (omega arith)

pub returns : goal.returns
returns c = ends-here c.args.t c.requires (denied-no c.ok.ensures (search rules)) (asked-no c.going.ensures (search rules)) c.write_total.ensures
