-- The theorems, and the lemmas of the functions' proofs.

-- field sums, loops, lists
pub mod Algebra  -- what follows from the field's laws alone
pub mod Sums  -- totals, and that syndromes are linear
pub mod Loops  -- loops that copy, fill an array or look for a number; parts of a list
pub mod Blocks  -- bytes of a list in one number, and what a test of it says of each
pub mod Questions  -- what the questions' tests mean, and their loops
pub mod Same  -- two lists are compared byte by byte
pub mod Lengths  -- the length of a word at each width
pub mod Members  -- lists of places
pub mod Places  -- arrays of places, by their numbers, and the loops over them
pub mod Columns  -- syndromes by columns, with and without erasures
-- the road: a folder for each part of it
pub mod distance  -- near codewords are unique, since codewords are far apart
pub mod calls  -- the encoder, and what passes the questions of the calls
pub mod solving  -- linear systems by elimination
pub mod restoring  -- codewords near a word, trials, and what is restored
pub mod finding  -- the wrong places from the syndromes
-- the demands and the starred cases
pub mod Demands  -- every demand, under its name in small letters
pub mod CaseTable  -- cases by a test that the prover computes
pub mod FiveErasures  -- the cases with five erasures
pub mod Cases  -- the table holds, and the distance at width 4 is not 5: `cases-hold`, `distance-not-five`
