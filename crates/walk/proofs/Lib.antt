-- The theorems about walk and look, and the laws that the functions' proofs use. Assumes nothing.
pub mod Restoring  -- a card restored slot by slot and part by part: `restored-in-parts`, `each-alone`, `card-again`, `card-not-otherwise`
pub mod Walking  -- a step by its verdict, and the moment after k steps: `walk-done`, `walk_Through`
pub mod Tallying  -- slots counted as they are restored, each lent as a part and put back: `slots-counted`
pub mod Looking  -- a look at one record, at a number, between and among steps
pub mod Demands  -- every demand, under its name in small letters
