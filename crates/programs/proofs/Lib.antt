-- Laws of the programs' definitions, and what the proofs of several functions use. Assumes nothing.
pub mod Streaming  -- writing part by part
pub mod Batches  -- from batch to batch, whatever is carried
pub mod Converting  -- a card asked, and converted, batch by batch
pub mod Tabling  -- a report from batch to batch, and the table of it
pub mod Listing  -- a listing from batch to batch, and its last lines
pub mod Checking  -- a card check from batch to batch, and its line
pub mod Restoring  -- a card restored from batch to batch
pub mod Telling  -- the day sheets of a card printed from batch to batch
pub mod Cutting  -- a text of day sheets taken part by part
pub mod Choosing  -- a definition by `cond` at the way out that the tests have taken
pub mod Roles  -- what a text is; where an argument of a role stands; what the roles decide
pub mod Seeking  -- a slot sought batch by batch, and the number of a record
pub mod Looking  -- the look at a slot that was sought
pub mod Comparing  -- two slots that were sought, side by side
