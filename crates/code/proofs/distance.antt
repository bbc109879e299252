-- The distance of the code, and that near codewords are unique. Assumes nothing.
pub mod Points  -- power sums of a few points are not 0 in certain rows at once: `run`, `two`, `three`
pub mod DistanceLaw  -- the distance, by the width's parity: `distance-of`
pub mod Unique  -- near codewords are unique, the distance given: `apart`, `same-near`, `radius-few`
