-- `field::folds::by_folds` meets its contract. Assumes nothing.
use Rattle.field.proofs.Base.{◌%◌}
use Rattle.field.specs.Sum.{weighted, at}
use Rattle.field.specs.inner.Folds.{Seventh, Eighth}
use Rattle.field.proofs.Evaluation.{five-of}
use Rattle.field.proofs.Relations.{conjugates, cubes}
use Rattle.field.proofs.Values.{sum-of-packed}
use Rattle.field.proofs.folds.by_folds.Goals as goal

pub returns : goal.returns
returns c =
    let cs = c.args.cs.now in
    let ws = c.words-w.result in
    let held = c.words-w.ensures in
    let size = c.requires in
    let x = c.packed-a.result in
    let y = c.packed-b.result in
    let kx = c.packed-a.ensures in
    let ky = c.packed-b.ensures in
    five-of (weighted 7 127 (λ i. at cs i % 128)) _ _ _ _ _
    (sum-of-packed cs size Eighth ws y held ky 0 _ cubes.0 cubes.0 cubes.0 cubes.0 c.weighted_sum.ensures)
    (sum-of-packed cs size Seventh ws x held kx 1 _ conjugates.3 conjugates.2 conjugates.1 conjugates.0 c.weighted_sum-2.ensures)
    (sum-of-packed cs size Seventh ws x held kx 2 _ conjugates.4 conjugates.3 conjugates.2 conjugates.1 c.weighted_sum-3.ensures)
    (sum-of-packed cs size Eighth ws y held ky 3 _ cubes.4 cubes.3 cubes.2 cubes.1 c.weighted_sum-4.ensures)
    (sum-of-packed cs size Seventh ws x held kx 4 _ conjugates.5 conjugates.4 conjugates.3 conjugates.2 c.weighted_sum-5.ensures)
