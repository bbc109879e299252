-- Laws of day sheets on cards. Assumes nothing.
pub mod Days  -- slots by number, and a record as a day sheet
pub mod Comparing  -- signs and totals, a law for each way out of a comparison, and where the part lies
pub mod Refusing  -- what a comparison refuses, and in which order
pub mod Order  -- dates are in one strict total order
pub mod Counting  -- the counts of a sheet in a window, and a row with a further sheet
pub mod Reports  -- rows in the report, bounds of its numbers, slot by slot, in parts
pub mod Tables  -- the lines of a table, and how long they are
pub mod Quarters  -- the texts of a quarter hour, and the search for it
pub mod Totals  -- what the report of a card says: totals, mean, highest count
pub mod Demands  -- every demand, under its name in small letters
