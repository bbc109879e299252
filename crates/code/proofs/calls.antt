-- Encoder, and what passes the questions of the calls. Assumes nothing.
pub mod Parities  -- a word's syndromes from the sums over its data
pub mod Encoding  -- encoder and codewords: `encode-codeword`, `codeword-encode`
pub mod Passing  -- what passes the questions, and what passing tells
pub mod Answers  -- what the functions that put the questions answer, for the calls above them
