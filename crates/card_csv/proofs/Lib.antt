-- Laws of the text's definitions, and what the proofs of several functions use. Assumes nothing.
pub mod Digits  -- two digits, three digits, the four of a year; months and days have two
pub mod SheetColumns  -- times and counts, column by column
pub mod SheetLines  -- the text slot by slot, how long it is and how far counts grow; in parts
pub mod Cutting  -- a line without its carriage return, and cut into columns
pub mod Values  -- the numbers and dates that stand in a column
pub mod ReadLines  -- the counts column by column, and a line from its columns
pub mod SheetRecords  -- the record of a sheet, as it is made and as it is read
pub mod Printed  -- printed numbers and dates: which bytes they lack, and that they are read back
pub mod ReadBack  -- a line that is printed is read back
pub mod LineSheets  -- what a line stands for are the symbols of a sheet
pub mod LinesMade  -- lines behind other lines, and no line behind a refused one
pub mod LineEnds  -- where a line of a text ends, byte by byte
pub mod Taking  -- a line that is taken: how long it is, if it is a sheet's, and what is made of it
pub mod TextParts  -- the lines of a part of a text one by one, and the last line
pub mod ThereAndBack  -- cards of clean sheets and their texts
pub mod Demands  -- the demands of specs/Demands.antt
