-- The definitions. What must be believed for the contracts of the public calls stands in the first five files.
pub mod Word  -- places, syndromes by equation (11), codewords, the encoder's word, the data of a word
pub mod Erasure  -- erasures, questions 6 and 7 beside them, the number of changes, the syndromes without them
pub mod Near  -- the distance, r, the near codewords, and what restoring finds among them
pub mod Call  -- for each call its questions, its answer and the lent memory afterwards
pub mod Demands  -- demands 2 and 3, the reach, both methods, the display
pub mod Cases  -- the starred cases, those with five erasures and the codeword of width 4, as one table
pub mod inner  -- vocabulary of inner functions, which no contract of a call, demand or stated theorem cites
