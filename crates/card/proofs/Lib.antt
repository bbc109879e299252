-- Laws of the card's definitions, and what the proofs of several functions use. Assumes nothing.
pub mod Layouts  -- the parts of a record, and what its own questions tell
pub mod Recording  -- from the word's restorer to the record's contract
pub mod Again  -- restoring is idempotent, at every reach; what stands in a restored record
pub mod Reaches  -- up to a longest reach: `not-otherwise`, `up-to-again`, `up-to-two`
pub mod Refusals  -- which refusals restoring a record can give
pub mod Blank  -- blank slots, and slots that are fine
pub mod Numbering  -- record numbers, both ways
pub mod Slots  -- slots one after the other, and of two parts
pub mod Folding  -- the fold over slots: `in_parts`, and what texts put behind each other make
pub mod Checking  -- the first record that would be refused: `first_some`, `first-none`, `checks`
pub mod Writing  -- one text behind another is both in one; a number digit by digit
pub mod Lines  -- listing slot by slot, and in parts: `listing-batches`, `listing-short`, `listing-long`
pub mod Finding  -- the card check in parts: `first-in-parts`
pub mod Bounds  -- how long lines are, how far numbers grow, at every reach: `few-places`, `sum-most`
pub mod Converted  -- a slot in the other edition, and the slots of the output
pub mod Leading  -- how many questions slot after slot passes, and the verdict
pub mod Converting  -- from the questions to the contracts of conversion
pub mod Editions  -- a slot of the old edition, and the same slot in the new
pub mod ThereAndBack  -- whole cards: `there_and_back`, `back-and-there`, `new-same`, `old-same`
pub mod Findings  -- the questions over a card in parts: `found-in-parts`, `to-new-in-parts`, `to-old-in-parts`, `number_is`
pub mod Coming  -- from batch to batch, whatever is carried (`came-more`), and that its numbers are small
pub mod Demands  -- the statements of specs/Demands.antt
