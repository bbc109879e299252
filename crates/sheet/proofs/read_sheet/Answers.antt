-- `sheet::read_sheet` meets its contract. Assumes nothing.
use Rattle.field.proofs.Base.{rules, arith}
use Rattle.sheet.proofs.Calls.{reads-long, reads-size}
use Rattle.sheet.proofs.read_sheet.Goals as goal

pub slice_bounds-copy_from_slice-end : goal.slice_bounds-copy_from_slice-end
slice_bounds-copy_from_slice-end c =
    let v = c.ask_read in
    let a = c.args in
    omega (arith, reads-long a.width a.word.now a.symbols.now v.result v.ensures (search rules))

pub copy_from_slice-requires : goal.copy_from_slice-requires
copy_from_slice-requires c =
    let v = c.ask_read in
    let a = c.args in
    reads-size a.width a.word.now a.symbols.now v.result v.ensures (search rules)
