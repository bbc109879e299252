-- Writing part by part. Assumes nothing.
use Rattle.field.proofs.Base.{◌≡◌, ap, true, ℕ, ◌+◌, ◌^◌, ◌<◌, arith}
use Rattle.programs.specs.Stream.{unwritten}
use Rattle.programs.specs.declared.output.Output.{Output}

-- the first part that is written
pub first_part : (o : Output) (n : ℕ) → o ≡ unwritten → n < 2 ^ 64 → (o.ok ≡ true) × (o.written + n < 2 ^ 64)
first_part o n e h = (ap (λ (x : Output). x.ok) e, omega (arith, ap (λ (x : Output). x.written) e))
