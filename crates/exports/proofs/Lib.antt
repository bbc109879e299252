pub mod Counting  -- the dock's counts as lent numbers
pub mod Parting  -- the part of a comparison, by its offset and size
pub mod Demands  -- the statements of specs/Demands.antt
