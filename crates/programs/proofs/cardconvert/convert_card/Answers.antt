-- `programs::cardconvert::convert_card` meets its contract. Assumes nothing.
use Rattle.field.proofs.Base.{sym, ◌∙◌, arith}
use Rattle.programs.proofs.Batches.{asked-yes}
use Rattle.programs.proofs.Converting.{asked-slots}
use Rattle.programs.proofs.cardconvert.convert_card.Goals as goal

pub convert_again-requires : goal.convert_again-requires
convert_again-requires c =
    let e = c.ended in
    let x = c.ask_card-inquiry in
    let passed = sym c.found_verdict.ensures ∙ c.in-Ok.is in
    (c.requires.0, c.requires.1, record { asks = x.ensures; ended = asked-yes e.ensures c.if-not-ended.false; passed = passed })

pub found_number-requires : goal.found_number-requires
found_number-requires c =
    let x = c.ask_card-inquiry in omega (arith, asked-slots x.ensures)
