-- Laws of the texts' definitions, and what the proofs of several functions use. Assumes nothing.
pub mod Texts  -- texts one behind the other
pub mod Looking  -- the text of a look, part by part
pub mod Comparing  -- two day sheets side by side as text, line by line
