-- The definitions of records and day sheets as text for people. Assumes nothing.
pub mod Text  -- what every text here is made of
pub mod Look  -- a record, what stands in it and what restoring makes of it
pub mod Comparison  -- two day sheets side by side
pub mod inner  -- vocabulary of inner functions, which no contract of a call, demand or stated theorem cites
