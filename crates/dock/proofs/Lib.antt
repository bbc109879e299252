-- The theorems about the dock, and the laws that the functions' proofs use. Assumes nothing.
pub mod Spending  -- one rewrite less: the bay's, the others', all together
pub mod Serving  -- a call by its answer, and the record that costs a rewrite
pub mod Denying  -- when a call is refused with 19
pub mod Running  -- runs of calls: used and left, and what each call costs
pub mod Demands  -- every demand, under its name in small letters
