-- `programs::cardconvert::convert` meets its contract. Assumes nothing.
use Rattle.field.proofs.Base.{arith}
use Rattle.programs.proofs.cardconvert.convert.Goals as goal

pub returns-then-k-eq-OLD_ERASURE_BYTES : goal.returns-then-k-eq-OLD_ERASURE_BYTES
returns-then-k-eq-OLD_ERASURE_BYTES c =
    let x = c.card_to_new in record { converts = λ e. x.ensures; converts_2 = λ e. absurd (omega arith) }

pub returns-else-k-eq-OLD_ERASURE_BYTES : goal.returns-else-k-eq-OLD_ERASURE_BYTES
returns-else-k-eq-OLD_ERASURE_BYTES c =
    let x = c.card_to_old in record { converts = λ e. absurd (omega arith); converts_2 = λ e. x.ensures }
