-- The definitions of records, cards, listings and conversions. Assumes nothing.
pub mod Record  -- the layout, over the number of erasure bytes; a record's questions, and restoring it: `RestoresRecordWithin`
pub mod Slots  -- slots, blank ones among them; one fold over them (`over_slots`), and from batch to batch (`Came`)
pub mod Card  -- where a part lies on its card (`LiesAt`); the card check, and what its answer says
pub mod Listing  -- the whole text of a listing, its lines and totals, also of a part of a card
pub mod Text  -- a text that grows at its end: what is put behind it, and that the lent memory behind stays (`Appends`)
pub mod Batch  -- the size of a batch
pub mod Words  -- each refusal in words, and the line of a refused record
pub mod Checked  -- the card check as a line of text, also of a card in parts
pub mod Conversion  -- cards between the two editions: questions, answer, output; there and back, and that each slot stays the same
pub mod Leading  -- how many of a conversion's questions a slot or a card passes before the first that it does not
pub mod Findings  -- a conversion's questions over a card in parts, and what is asked of them
pub mod Demands  -- demand 3 at a record, and what is asked of card check, blank slots and listing
pub mod inner  -- vocabulary of inner functions, which no contract of a call, demand or stated theorem cites
