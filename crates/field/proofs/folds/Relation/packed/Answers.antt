-- `field::folds::Relation::packed` meets its contract. Assumes nothing.
use Rattle.field.specs.inner.Folds.{Obeys}
use Rattle.field.proofs.Values.{chain}
use Rattle.field.proofs.folds.Relation.packed.Goals as goal

pub returns : goal.returns
returns g c =
    let r = c.args.self.now in
    chain (Obeys r.degree r.places) c.args.w c.fold.result c.halves-a.result c.fold-2.result c.halves-b.result
    c.fold-3.result c.halves-c.result c.fold-4.result c.pack.result
    c.fold.ensures c.halves-a.ensures c.fold-2.ensures c.halves-b.ensures
    c.fold-3.ensures c.halves-c.ensures c.fold-4.ensures c.pack.ensures
