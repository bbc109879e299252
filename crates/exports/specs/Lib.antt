pub mod Packed  -- the number that an exported call returns
pub mod Counts  -- the dock's counts as five lent numbers
pub mod Part  -- where the part of a comparison lies, as two lent numbers
pub mod Demands  -- packing loses nothing, and a chain of calls on the dock is a run
