-- Vocabulary of inner functions: no contract of a call, demand or stated theorem cites it. Assumes nothing.
pub mod Block  -- neighbouring bytes in one number, and a run of them passed over
pub mod Place  -- a place's exponent, and the columns of the code's matrix
pub mod Matrix  -- linear systems as matrices, the steps of elimination, what the solver's answers mean
pub mod Correction  -- a trial, a correction, and what a search that finds none has shown
-- and of finding the wrong places from the syndromes
pub mod Scan  -- the search for roots among the powers of α, and the place of a ratio
pub mod Locate  -- no erasures: the tests on the syndromes, and the places that they name
pub mod Beside  -- one or two erasures: the tests on rows from which they are eliminated
