-- `programs::cardconvert::ask_into` meets its contract. Assumes nothing.
use Rattle.field.proofs.Base.{◌≡◌, ℕ, ◌*◌, ◌≤◌, List, arith, length, take, drop, length-take-le}
use Rattle.card.specs.Record.{size_of, erasure_bytes}
use Rattle.card.specs.Batch.{batch_size}
use Rattle.programs.proofs.Converting.{read-inside, read-size, asks-batch}
use Rattle.programs.proofs.cardconvert.ask_into.Goals as goal

-- the slots of a batch fit into the buffer
module _ (k size : ℕ) (buf : List ℕ) (e : size ≡ size_of k) (l : length buf ≡ batch_size) (h : k ≤ erasure_bytes) where
  fits : 400 * size ≤ length buf
  fits = omega arith

  front : length (take (400 * size) buf) ≡ 400 * size
  front = length-take-le (400 * size) buf fits

pub read_batch-input-requires : goal.read_batch-input-requires
read_batch-input-requires c =
    let i = c.requires.1 in
    let f = front c.args.k c.size_of-size.result c.args.buf.now c.size_of-size.ensures c.requires.0 c.requires.2 in
    (i.going, i.well, omega (arith, f, i.small, c.requires.0, c.requires.2, c.size_of-size.ensures))

pub slice_bounds-see_part-end : goal.slice_bounds-see_part-end
slice_bounds-see_part-end c =
    let y = c.read_batch-input in
    read-inside c.count-count.result y.result.count c.count-count.ensures y.new.buf _ y.ensures.most

pub see_part-findings-requires : goal.see_part-findings-requires
see_part-findings-requires c =
    let y = c.read_batch-input in
    let x = c.count-count in
    let behind = drop (400 * c.size_of-size.result) c.args.buf.now in
    let l = read-size x.result y.result.count x.ensures y.new.buf behind y.ensures.most in
    let f = front c.args.k c.size_of-size.result c.args.buf.now c.size_of-size.ensures c.requires.0 c.requires.2 in
    let g = fits c.args.k c.size_of-size.result c.args.buf.now c.size_of-size.ensures c.requires.0 c.requires.2 in
    (c.requires.2, omega (arith, l, f, g, x.ensures, y.ensures.most, y.ensures.size, c.requires.0, c.requires.3))

pub returns : goal.returns
returns c =
    let y = c.read_batch-input in
    let x = c.count-count in
    let f = front c.args.k c.size_of-size.result c.args.buf.now c.size_of-size.ensures c.requires.0 c.requires.2 in
    asks-batch c.args.k c.args.s c.see_part-findings.result _ y.ensures c.size_of-size.ensures x.ensures f c.see_part-findings.ensures
