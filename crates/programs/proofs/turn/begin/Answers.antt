-- `programs::turn::begin` meets its contract. Assumes nothing.
use Rattle.field.proofs.Base.{refl, ap}
use Rattle.programs.specs.declared.input.Input.{Input}
use Rattle.programs.specs.declared.output.Output.{Output}
use Rattle.programs.proofs.turn.begin.Goals as goal

pub returns : goal.returns
returns c =
    let i = c.new.ensures in
    let o = c.new-2.ensures in
    record {
      progress = refl;
      read = ap (λ (x : Input). x.read) i;
      going = ap (λ (x : Input). x.going) i;
      well = ap (λ (x : Input). x.failed) i;
      written = ap (λ (x : Output). x.written) o;
      ok = ap (λ (x : Output). x.ok) o;
    }
