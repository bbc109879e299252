-- `programs::cardcheck::with_status` meets its contract. Assumes nothing.
use Rattle.field.proofs.Base.{ap}
use Rattle.programs.specs.declared.status.Status.{Status}
use Rattle.programs.proofs.cardcheck.with_status.Goals as goal

pub returns : goal.returns
returns c =
    let s = c.args in ap (λ (x : Status). record { input = s.i; output = s.o; status = x }) c.status_of.ensures
