-- `programs::cardlist::list_batch` meets its contract. Assumes nothing.
use Rattle.field.proofs.Base.{rules, refl, arith}
use Rattle.programs.proofs.Batches.{front-size}
use Rattle.programs.proofs.Listing.{batch-lines, lists-batch}
use Rattle.programs.proofs.cardlist.list_batch.Goals as goal

pub read_batch-input-requires : goal.read_batch-input-requires
read_batch-input-requires c =
    let p = c.requires.input in (p.going, p.well, omega (arith, p.small))

pub list_records-counts-requires : goal.list_records-counts-requires
list_records-counts-requires c =
    let x = c.read_batch-input in
    let n = c.count in
    let l = front-size x.new.buf n.ensures x.ensures.most in
    (omega (arith, l, n.ensures, x.ensures.most, x.ensures.size), search rules, c.requires.counts)

pub write_lines-output-requires : goal.write_lines-output-requires
write_lines-output-requires c = (record { ok = c.requires.output.ok; small = grind (arith, c.requires.output.small) }, batch-lines c.args.t c.read_batch-input.ensures c.count.ensures (search rules))

pub returns : goal.returns
returns c = lists-batch c.args.t c.read_batch-input.ensures c.count.ensures (search rules) refl c.list_records-counts.ensures.progress c.write_lines-output.ensures
