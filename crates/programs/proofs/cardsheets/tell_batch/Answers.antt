-- `programs::cardsheets::tell_batch` meets its contract. Assumes nothing.
use Rattle.field.proofs.Base.{rules, refl, arith}
use Rattle.programs.proofs.Batches.{front-size}
use Rattle.programs.proofs.Telling.{batch-sheets, tells-batch}
use Rattle.programs.proofs.cardsheets.tell_batch.Goals as goal

pub read_batch-input-requires : goal.read_batch-input-requires
read_batch-input-requires c =
    let p = c.requires.input in (p.going, p.well, omega (arith, p.small))

pub list_sheets-counts-requires : goal.list_sheets-counts-requires
list_sheets-counts-requires c =
    let x = c.read_batch-input in
    let n = c.count in
    let l = front-size x.new.buf n.ensures x.ensures.most in
    (omega (arith, l, n.ensures, x.ensures.most, x.ensures.size), search rules, c.requires.counts)

pub write_lines-output-requires : goal.write_lines-output-requires
write_lines-output-requires c = (
  record { ok = c.requires.output.ok; small = grind (arith, c.requires.output.small) },
  batch-sheets c.args.t c.read_batch-input.ensures c.count.ensures (search rules),
)

pub returns : goal.returns
returns c =
    tells-batch c.args.t c.read_batch-input.ensures c.count.ensures (search rules) refl c.list_sheets-counts.ensures.counts (grind arith)
    c.write_lines-output.ensures
