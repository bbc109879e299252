-- `dock::settle` meets its contract. Assumes nothing.
use Rattle.std.proofs.lemmas.Bool.Decides.{Decides-eqb}
use Rattle.std.proofs.lemmas.Slice.Eq.{slice_eq-Decides}
use Rattle.field.proofs.Base.{rules}
use Rattle.dock.proofs.Serving.{settles-same, settles-spent, settles-denied}
use Rattle.dock.proofs.settle.Goals as goal

pub returns-then-eq : goal.returns-then-eq
returns-then-eq c =
    let same = slice_eq-Decides Decides-eqb c.args.bytes.now c.args.restored.now c.eq.result c.eq.ensures in
    search (rules, settles-same)

pub returns-then-not-any_left : goal.returns-then-not-any_left
returns-then-not-any_left c =
    let same = slice_eq-Decides Decides-eqb c.args.bytes.now c.args.restored.now c.eq.result c.eq.ensures in
    search (rules, settles-denied)

pub returns : goal.returns
returns c =
    let same = slice_eq-Decides Decides-eqb c.args.bytes.now c.args.restored.now c.eq.result c.eq.ensures in
    search (rules, settles-spent)
