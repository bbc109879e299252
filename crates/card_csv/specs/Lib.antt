-- The definitions of day sheets as CSV. Assumes nothing.
pub mod Text  -- the header, the line of a sheet, the text of a card as a fold over its slots, and what is counted beside it
pub mod Batch  -- the size of a batch, and the room that its text needs
pub mod Reading  -- what a line stands for: the symbols of a sheet, or what is wrong with it; and which header a line is
pub mod Record  -- the record of a sheet
pub mod Making  -- the lines of a text, how it stands behind each, and the card of it; in parts: `MakesRecords`, `MakesLast`
pub mod RoundTrip  -- cards of clean sheets and their texts
pub mod Demands  -- what is asked of the text: in parts, and there and back
pub mod inner  -- vocabulary of inner functions, which no contract of a call, demand or stated theorem cites
