-- `programs::cardstarts::fill` meets its contract. Assumes nothing.
use Rattle.field.proofs.Base.{refl, ap, ◌∙◌, ℕ, arith, replicate}
use Rattle.programs.proofs.Batches.{asked-yes, asked-no}
use Rattle.programs.proofs.Tabling.{reports-end, reports-readable, reports-more}
use Rattle.programs.proofs.cardstarts.fill.Goals as goal

pub add_batches-before-requires : goal.add_batches-before-requires
add_batches-before-requires c = (c.requires.0, c.begin.ensures ∙ ap (λ (k : ℕ). replicate k 0) c.requires.1)

pub returns-then-not-going : goal.returns-then-not-going
returns-then-not-going c =
    let x = c.add_batches-before in
    let left = asked-no c.going.ensures c.if-not-going.true in
    reports-end c.args.w x.ensures left c.finish.ensures

pub read_batch-input-requires : goal.read_batch-input-requires
read_batch-input-requires c =
    let x = c.add_batches-before in
    let i = reports-readable _ x.ensures (asked-yes c.going.ensures c.if-not-going.false) in
    (i.going, i.well, omega (arith, i.small))

pub returns : goal.returns
returns c =
    let y = c.read_batch-input in
    let n = c.count in
    let x = c.add_batches-before in
    let going = asked-yes c.going.ensures c.if-not-going.false in
    reports-more c.args.w x.ensures going y.ensures refl n.result n.ensures c.finish-2.ensures
