-- `programs::cardsheets::begin` meets its contract. Assumes nothing.
use Rattle.field.proofs.Base.{refl, ap, arith}
use Rattle.programs.specs.declared.input.Input.{Input}
use Rattle.programs.specs.declared.output.Output.{Output}
use Rattle.programs.proofs.cardsheets.begin.Goals as goal

pub write_header-requires : goal.write_header-requires
write_header-requires c =
    let o = c.new-2.ensures in record { ok = ap (λ (x : Output). x.ok) o; small = omega (arith, ap (λ (x : Output). x.written) o) }

pub returns : goal.returns
returns c =
    let i = c.new.ensures in
    let o = c.new-2.ensures in
    let w = c.write_header.ensures in
    record {
      counts = refl;
      read = ap (λ (x : Input). x.read) i;
      well = ap (λ (x : Input). x.failed) i;
      text = λ p. omega (arith, w.wrote p, ap (λ (x : Output). x.written) o);
      short = w.sheets_header_len_bound;
    }
