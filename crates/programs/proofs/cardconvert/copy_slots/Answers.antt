-- `programs::cardconvert::copy_slots` meets its contract. Assumes nothing.
use Rattle.field.proofs.Base.{◌∙◌, sym, arith}
use Rattle.programs.proofs.Converting.{not-refused, passed-converted}
use Rattle.programs.proofs.cardconvert.copy_slots.Goals as goal

pub write_converted-output-requires : goal.write_converted-output-requires
write_converted-output-requires c =
    let x = c.convert in (
      record { ok = c.requires.0.ok; small = omega (arith, c.requires.0.written_small) },
      passed-converted c.args.k _ _ x.result _ x.ensures.converts x.ensures.converts_2 (not-refused x.result (sym c.is_err.ensures.value ∙ c.if-is_err.false))
          c.requires.1 c.requires.2,
    )
