-- Vocabulary of inner functions: no contract of a program cites it. Assumes nothing.
pub mod Turns  -- what a step requires between batches
pub mod Lists  -- a listing batch by batch
pub mod Checks  -- a card check batch by batch
pub mod Restores  -- a card restored batch by batch
pub mod Copies  -- a card asked, and converted, batch by batch
pub mod Reports  -- a report batch by batch
pub mod Tells  -- the day sheets of a card printed batch by batch
pub mod Cuts  -- a text of day sheets taken part by part
pub mod Seeks  -- a slot sought batch by batch
pub mod Compares  -- two slots that were sought, and what is written of them
