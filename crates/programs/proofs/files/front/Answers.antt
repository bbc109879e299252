-- `programs::files::front` meets its contract. Assumes nothing.
use Rattle.field.proofs.Base.{sym, length-take-le}
use Rattle.programs.proofs.files.front.Goals as goal

pub slice_bounds-result-end : goal.slice_bounds-result-end
slice_bounds-result-end c = sym (length-take-le c.args.n c.args.bytes.now c.requires)
