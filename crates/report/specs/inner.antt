-- Vocabulary of inner functions: no contract of a call, demand or stated theorem cites it. Assumes nothing.
pub mod Parts  -- a slot by its number, a record that is read, the part of a choice
pub mod Room  -- how long texts are, how far numbers may grow
