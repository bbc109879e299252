-- Vocabulary of inner functions: no contract of a call, demand or stated theorem cites it. Assumes nothing.
pub mod Room  -- how long texts and their parts are, and how far counts may grow
pub mod Numbered  -- columns behind a number
pub mod Taking  -- a line of a text that is taken
