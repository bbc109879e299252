-- A run of places that a loop passes over. Assumes nothing.
use Rattle.std.specs.Prelude.{ℕ, ◌≤◌, ◌<◌}

-- a run of places that have the property, from i to the one before r, and r is at most n
pub record Run (P : ℕ → Type 0) (i n r : ℕ) : Type 0 where
  pub on : i ≤ r
  pub within : r ≤ n
  pub each : (p : ℕ) → i ≤ p → p < r → P p
