-- `programs::intake::take_part` meets its contract. Assumes nothing.
use Rattle.field.proofs.Base.{rules, arith}
use Rattle.programs.proofs.Cutting.{parts-few, parts-fine, parts-part, part-further, part-readable, part-size, part-rest, part-taken}
use Rattle.programs.proofs.intake.take_part.Goals as goal

pub read_on-input-requires : goal.read_on-input-requires
read_on-input-requires c =
    let p = c.requires in (part-readable p.0 p.1, p.0.buffer, p.0.kept)

pub slice_bounds-make_records-end : goal.slice_bounds-make_records-end
slice_bounds-make_records-end c =
    let x = c.read_on-input.ensures in omega (arith, x.fits, x.size, c.count.ensures)

pub make_records-made-requires : goal.make_records-made-requires
make_records-made-requires c =
    let p = c.requires in
    let few = parts-few p.0 in
    let size = part-size p.0 p.1 c.read_on-input.ensures c.count.ensures in (
      parts-fine p.0 (part-further p.0 p.1),
      few,
      omega (arith, size, c.read_on-input.ensures.fits, c.count.ensures),
      grind arith,
    )

pub put_records-output-requires : goal.put_records-output-requires
put_records-output-requires c =
    let p = c.requires in
    parts-part p.0 (part-further p.0 p.1) c.make_records-made.ensures.lines (grind arith) (search rules)

pub copy_within-requires : goal.copy_within-requires
copy_within-requires c =
    let p = c.requires in
    let x = c.read_on-input.ensures in
    let rest = part-rest p.0 p.1 x c.count.ensures c.make_records-made.ensures in
    record {
      start_le_end = rest;
      in_bounds = omega (arith, x.fits, x.size, c.count.ensures);
      dest_in_bounds = omega (arith, x.fits, x.size, c.count.ensures);
      not_exhausted = tt;
    }

pub overflow_sub-result : goal.overflow_sub-result
overflow_sub-result c =
    let p = c.requires in
    part-rest p.0 p.1 c.read_on-input.ensures c.count.ensures c.make_records-made.ensures

pub returns : goal.returns
returns c =
    let p = c.requires in
    part-taken p.0 p.1 c.read_on-input.ensures c.count.ensures c.make_records-made.ensures c.copy_within.ensures.after (search rules) (grind arith)
    (search rules) c.put_records-output.ensures
