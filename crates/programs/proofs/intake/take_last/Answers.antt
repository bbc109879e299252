-- `programs::intake::take_last` meets its contract. Assumes nothing.
use Rattle.field.proofs.Base.{rules, sym, arith, take, length-take-le}
use Rattle.card_csv.specs.Making.{last_line}
use Rattle.programs.proofs.Cutting.{parts-few, parts-fine, parts-part, rest-last}
use Rattle.programs.proofs.intake.take_last.Goals as goal

pub slice_bounds-make_last-end : goal.slice_bounds-make_last-end
slice_bounds-make_last-end c = sym (length-take-le c.args.t.kept c.args.buf.now (omega (arith, c.requires.0.kept, c.requires.0.buffer)))

pub make_last-made-requires : goal.make_last-made-requires
make_last-made-requires c =
    let few = parts-few c.requires.0 in
    (parts-fine c.requires.0 c.requires.1, omega (arith, few), grind arith)

pub put_records-output-requires : goal.put_records-output-requires
put_records-output-requires c =
    parts-part c.requires.0 c.requires.1 (last_line (take c.args.t.kept c.args.buf.now)) (grind arith) (search rules)

pub returns : goal.returns
returns c = rest-last c.requires.0 c.requires.1 c.make_last-made.ensures (grind arith) (search rules) c.put_records-output.ensures
