-- Codewords near a word, and what is restored. Assumes nothing.
pub mod Filling  -- codewords that agree outside some places, as solutions of a linear system
pub mod Extra  -- near is to agree outside the erasures and at most r extra places
pub mod Codewords  -- the lists of codewords and of near ones
pub mod Restoring  -- the parts of demand 3, at every reach
pub mod Staying  -- a codeword stays, and the numbers of the restorer's refusals
pub mod Correcting  -- a trial as a linear system, the answers in terms of codewords
pub mod Trying  -- one more place, and searches with any number of extra places
pub mod Repairing  -- from a search to the contract of the restorer: `restores-clean`, `restores-found`, `restores-none`
pub mod Writing  -- a correction is written, and counted, at its places alone
