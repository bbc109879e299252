-- `programs::seek::keep_slot` meets its contract. Assumes nothing.
use Rattle.field.proofs.Base.{sym, ap, arith, ◌≤◌, length, length-take-le}
use Rattle.programs.proofs.Seeking.{slot-none, slot-short}
use Rattle.programs.proofs.seek.keep_slot.Goals as goal

pub returns-then-record_count-k : goal.returns-then-record_count-k
returns-then-record_count-k c = record { slot = slot-none c.args.batch.now c.args.k (omega (arith, c.record_count.ensures)); room = tt }

fits : goal.slice_bounds-copy_from_slice-end
fits c = omega (arith, ap length c.record_from-slot.ensures.bytes, slot-short c.args.batch.now c.args.k, c.requires.1)

pub slice_bounds-copy_from_slice-end : goal.slice_bounds-copy_from_slice-end
slice_bounds-copy_from_slice-end c = fits c

pub slice_bounds-copy_from_slice-end-2 : goal.slice_bounds-copy_from_slice-end-2
slice_bounds-copy_from_slice-end-2 c =
    let l = length c.record_from-slot.result.now in
    let h : l ≤ length c.args.row.now = omega (arith, ap length c.record_from-slot.ensures.bytes, slot-short c.args.batch.now c.args.k, c.requires.1) in
    sym (length-take-le l c.args.row.now h)

pub copy_from_slice-requires : goal.copy_from_slice-requires
copy_from_slice-requires c =
    let l = length c.record_from-slot.result.now in
    let h : l ≤ length c.args.row.now = omega (arith, ap length c.record_from-slot.ensures.bytes, slot-short c.args.batch.now c.args.k, c.requires.1) in
    length-take-le l c.args.row.now h
